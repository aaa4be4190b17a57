-- The bits that a walk over runs makes.
use Rattle.std.proofs.Common.{◌≡◌, ℕ, zero, suc, ◌+◌, ◌-◌, ◌^◌, ◌<◌, ◌≤◌, Bool, true, false, not, ◌||◌, ◌&&◌, eqb, leb, List, [], ◌∷◌, ◌++◌, length, get_or, take, drop, map, replicate, Option, Some, None, IfSome, refl, sym, ap, subst, ◌∙◌, arith, inl, inr, add-one, add-zero}
use Rattle.std.specs.List.{AllWithin, list_any, range_with_len}
use Rattle.std.specs.Option.{unwrap_or}
use Rattle.std.proofs.lemmas.Bool.{cases_lt, le-ltb}
use Rattle.std.proofs.lemmas.Bool.Decides.{nat_tests}
use Rattle.std.proofs.lemmas.List.{append_assoc, map-append, get_or-drop, get_or-take, length-drop, length-take-le}
use Rattle.std.proofs.lemmas.List.FromFn.{length-map-range_with_len}
use Rattle.std.proofs.Math.Seq.{drop-cons}
use Rattle.pc_model.specs.Bits.{AreRuns, bits_between}
use Rattle.pc_model.proofs.BitsLemmas.{AreRuns-lower}
use Rattle.pc_model.specs.Numbers.{least_of}
use Rattle.pc_model.specs.Marks.{Mark, bits_at, high_at, position_at}
use Rattle.pc_partition.specs.Runs.{offsets_in}
use Rattle.pc_partition.specs.Window.{StandsFor, Window, some_bits}
use Rattle.pc_partition.proofs.StateLemmas.{AreRuns-all, least-runs}
use Rattle.pc_partition.proofs.RunsLemmas.{is_in, is_in-none, list_any-offsets_in, range-append}

-- whether an offset is in no run
abbrev pub is_done : List (ℕ × ℕ) → ℕ → Bool
is_done runs o = not (list_any (λ x. eqb x o) (offsets_in runs))

map-range-same : (f : ℕ → Bool) (v : Bool) (a n : ℕ) → ((o : ℕ) → a ≤ o → o < a + n → f o ≡ v)
    → map f (range_with_len a n) ≡ replicate n v
map-range-same f v a zero same = refl
map-range-same f v a (suc n) same = rw (same a (omega arith) (omega arith))
    (ap (λ (l : List Bool). v ∷ l) (map-range-same f v (a + 1) n (λ o low high. same o (omega (arith, low)) (omega (arith, high)))))

-- the bits up to a place are made, and the runs from one on are left
pub record IsBuilt (runs : List (ℕ × ℕ)) (position high place i : ℕ) (bits : List Bool) : Type 0 where
  pub from : position ≤ place
  pub upto : place ≤ high
  pub bits_are : bits ≡ map (is_done runs) (range_with_len position (place - position))
  pub same : (o : ℕ) → place ≤ o → is_in o runs ≡ is_in o (drop i runs)
  pub in_order : AreRuns place (2 ^ 63) (drop i runs)

IsBuilt-start : (runs : List (ℕ × ℕ)) (position high : ℕ) → AreRuns position (2 ^ 63) runs → position ≤ high
    → IsBuilt runs position high position 0 []
IsBuilt-start runs position high are le =
    let none : position - position ≡ 0 = omega arith in
    record { from = omega arith; upto = le; bits_are = rw none refl; same = λ o low. refl; in_order = are }

pub IsBuilt-count : (runs : List (ℕ × ℕ)) (position high place i : ℕ) (bits : List Bool)
    → IsBuilt runs position high place i bits → length bits ≡ place - position
IsBuilt-count runs position high place i bits built = ap (λ (l : List Bool). length l) built.bits_are
    ∙ length-map-range_with_len (is_done runs) position (place - position)

-- one more run
pub record IsBuiltNext (runs : List (ℕ × ℕ)) (position high place i : ℕ) (bits : List Bool) (run : ℕ × ℕ) : Type 0 where
  pub low : place ≤ run.0
  pub end : run.0 + run.1 ≤ high
  pub size : length bits + place ≡ place - position + place
  pub next : IsBuilt runs position high (run.0 + run.1) (i + 1) ((bits ++ replicate (run.0 - place) true) ++ replicate run.1 false)

done-apart : (o : ℕ) (runs : List (ℕ × ℕ)) → is_in o runs ≡ false → is_done runs o ≡ true
done-apart o runs apart = ap not (list_any-offsets_in o runs ∙ apart)

done-in : (o : ℕ) (runs : List (ℕ × ℕ)) → is_in o runs ≡ true → is_done runs o ≡ false
done-in o runs inside = ap not (list_any-offsets_in o runs ∙ inside)

head-in : (o : ℕ) (run : ℕ × ℕ) (rest : List (ℕ × ℕ)) → run.0 ≤ o → o < run.0 + run.1 → is_in o (run ∷ rest) ≡ true
head-in o run rest low high = grind (arith, nat_tests)

past-test : (a x : Bool) → ((a && false) || x) ≡ x
past-test true x = refl
past-test false x = refl

head-past : (o : ℕ) (run : ℕ × ℕ) (rest : List (ℕ × ℕ)) → run.0 + run.1 ≤ o → is_in o (run ∷ rest) ≡ is_in o rest
head-past o run rest past = rw (le-ltb o (run.0 + run.1) past) (past-test (leb run.0 o) (is_in o rest))

head-before : (o : ℕ) (run : ℕ × ℕ) (rest : List (ℕ × ℕ)) (least : ℕ) → AreRuns least (2 ^ 63) (run ∷ rest) → o < run.0
    → is_in o (run ∷ rest) ≡ false
head-before o run rest least are before = is_in-none o least (2 ^ 63) (run ∷ rest) are (λ d some. before)

IsBuiltNext-one : (runs : List (ℕ × ℕ)) (position high place i : ℕ) (bits : List Bool) (d : ℕ × ℕ)
    → IsBuilt runs position high place i bits → i < length runs → (get_or runs i d).0 ≤ high
    → list_any (λ x. eqb x high) (offsets_in runs) ≡ false
    → IsBuiltNext runs position high place i bits (get_or runs i d)
IsBuiltNext-one runs position high place i bits d built within begins apart =
    let run = get_or runs i d in
    let rest = drop (suc i) runs in
    let here : drop i runs ≡ run ∷ rest = drop-cons runs i d within in
    let are : AreRuns place (2 ^ 63) (run ∷ rest) = subst (AreRuns place (2 ^ 63)) here built.in_order in
    let same : (o : ℕ) → place ≤ o → is_in o runs ≡ is_in o (run ∷ rest) =
    λ o low. built.same o low ∙ ap (is_in o) here in
    let end : run.0 + run.1 ≤ high = elim (cases_lt high (run.0 + run.1)) [
      | inl inside ↦
          let t = same high (omega (arith, built.upto)) ∙ head-in high run rest begins inside in
          let f = sym (list_any-offsets_in high runs) ∙ apart in
          cc
      | inr past ↦ past
    ] in
    let split : run.0 + run.1 - position ≡ (place - position) + ((run.0 - place) + run.1) = omega (arith, built.from, are.0) in
    let at_place : position + (place - position) ≡ place = omega (arith, built.from) in
    let at_run : place + (run.0 - place) ≡ run.0 = omega (arith, are.0) in
    let ones : map (is_done runs) (range_with_len place (run.0 - place)) ≡ replicate (run.0 - place) true =
    map-range-same (is_done runs) true place (run.0 - place) (λ o low less.
    done-apart o runs (same o low ∙ head-before o run rest place are (omega (arith, less, at_run)))) in
    let zeros : map (is_done runs) (range_with_len run.0 run.1) ≡ replicate run.1 false =
    map-range-same (is_done runs) false run.0 run.1 (λ o low less.
    done-in o runs (same o (omega (arith, low, are.0)) ∙ head-in o run rest low less)) in
    let all : map (is_done runs) (range_with_len position (run.0 + run.1 - position))
    ≡ (bits ++ replicate (run.0 - place) true) ++ replicate run.1 false =
    ap (λ n. map (is_done runs) (range_with_len position n)) split
    ∙ ap (map (is_done runs)) (range-append position (place - position) ((run.0 - place) + run.1))
    ∙ map-append (is_done runs) (range_with_len position (place - position)) (range_with_len (position + (place - position)) ((run.0 - place) + run.1))
    ∙ rw (
      at_place,
      ← built.bits_are,
      range-append place (run.0 - place) run.1,
      at_run,
      map-append (is_done runs) (range_with_len place (run.0 - place)) (range_with_len run.0 run.1),
      ones,
      zeros,
    )
    (sym (append_assoc bits (replicate (run.0 - place) true) (replicate run.1 false))) in
    let len = ap (λ (l : List Bool). length l) built.bits_are in
    let count = length-map-range_with_len (is_done runs) position (place - position) in
    record {
      low = are.0;
      end = end;
      size = omega (arith, len, count);
      next = record {
        from = omega (arith, built.from, are.0);
        upto = end;
        bits_are = sym all;
        same = λ o past. same o (omega (arith, past, are.0)) ∙ head-past o run rest past ∙ ap (λ n. is_in o (drop n runs)) (sym (add-one i));
        in_order = rw (add-one i) (AreRuns-lower (run.0 + run.1) (run.0 + run.1 + 1) (2 ^ 63) rest (omega arith) are.3);
      };
    }

-- the same of a run among the first ones
pub IsBuiltNext-below : (runs : List (ℕ × ℕ)) (position high place i k : ℕ) (bits : List Bool) (d : ℕ × ℕ)
    → IsBuilt runs position high place i bits → k ≤ length runs → i < length (take k runs)
    → AllWithin (λ (run : ℕ × ℕ). run.0 ≤ high) runs 0 k
    → list_any (λ x. eqb x high) (offsets_in runs) ≡ false
    → IsBuiltNext runs position high place i bits (get_or (take k runs) i d)
IsBuiltNext-below runs position high place i k bits d built some within begins apart =
    let len = length-take-le k runs some in
    let less : i < k = omega (arith, within, len) in
    let at : get_or (take k runs) i d ≡ get_or runs i d = get_or-take k runs i d less in
    rw at (IsBuiltNext-one runs position high place i bits d built (omega (arith, less, some))
    (begins i d (omega arith) less) apart)

-- after the last run that begins at the end or before it
pub bits-end : (runs : List (ℕ × ℕ)) (position high place i : ℕ) (bits : List Bool) → IsBuilt runs position high place i bits
    → AllWithin (λ (run : ℕ × ℕ). high < run.0) runs i (length runs)
    → bits ++ replicate (high + 1 - place) true ≡ bits_between position high (offsets_in runs)
bits-end runs position high place i bits built above =
    let split : high + 1 - position ≡ (place - position) + (high + 1 - place) = omega (arith, built.from, built.upto) in
    let at_place : position + (place - position) ≡ place = omega (arith, built.from) in
    let ones : map (is_done runs) (range_with_len place (high + 1 - place)) ≡ replicate (high + 1 - place) true =
    map-range-same (is_done runs) true place (high + 1 - place) (λ o low less.
    done-apart o runs (built.same o low ∙ is_in-none o place (2 ^ 63) (drop i runs) built.in_order (λ d some.
    let len = length-drop i runs in
    let first = above i d (omega arith) (omega (arith, some, len)) in
    let at : get_or (drop i runs) 0 d ≡ get_or runs i d = get_or-drop i runs 0 d ∙ ap (λ n. get_or runs n d) (add-zero i) in
    let at_first = ap (λ (r : ℕ × ℕ). r.0) at in
    omega (arith, first, at_first, less, built.upto)))) in
    sym (ap (λ n. map (is_done runs) (range_with_len position n)) split
    ∙ ap (map (is_done runs)) (range-append position (place - position) (high + 1 - place))
    ∙ map-append (is_done runs) (range_with_len position (place - position)) (range_with_len (position + (place - position)) (high + 1 - place))
    ∙ rw (at_place, ← built.bits_are, ones) refl)

-- ---- the bits of the marks

some-bits : (f : ℕ → Bool) (position high : ℕ) → position ≤ high
    → some_bits (map f (range_with_len position (high + 1 - position))) ≡ Some (map f (range_with_len position (high + 1 - position)))
some-bits f position high le =
    let more : high + 1 - position ≡ suc (high - position) = omega arith in
    rw more refl

pub bits_at-some : (w : Window) (b n : ℕ) (marks : List Mark) (position high : ℕ) → StandsFor w b n marks
    → w.high ≡ Some high → position ≡ position_at b marks → position ≤ high
    → Some (bits_between position high w.incomplete) ≡ some_bits (bits_at b marks)
unfolding bits_at
bits_at-some w b n marks position high is at position_is le =
    let high_is : high_at marks ≡ Some high = sym is.high ∙ at in
    rw (high_is, ← position_is, ← is.incomplete) (sym (some-bits (λ o. not (list_any (λ x. eqb x o) w.incomplete)) position high le))

pub bits_at-none : (w : Window) (b n : ℕ) (marks : List Mark) → StandsFor w b n marks → w.high ≡ None
    → None ≡ some_bits (bits_at b marks)
unfolding bits_at
bits_at-none w b n marks is at = let high_is : high_at marks ≡ None = sym is.high ∙ at in rw high_is refl

pub bits_at-below : (w : Window) (b n : ℕ) (marks : List Mark) (position high : ℕ) → StandsFor w b n marks
    → w.high ≡ Some high → position ≡ position_at b marks → high < position
    → None ≡ some_bits (bits_at b marks)
unfolding bits_at
bits_at-below w b n marks position high is at position_is less =
    let high_is : high_at marks ≡ Some high = sym is.high ∙ at in
    let none : high + 1 - position ≡ 0 = omega arith in
    rw (high_is, ← position_is, none) refl

-- the first run begins at the position
pub AreRuns-position : (after : ℕ) (runs : List (ℕ × ℕ)) (position : ℕ) → AreRuns 0 after runs → after < 2 ^ 63
    → position ≡ unwrap_or (least_of (offsets_in runs)) after → AreRuns position (2 ^ 63) runs
AreRuns-position after [] position are small first = tt
AreRuns-position after (run ∷ runs) position are small first =
    let least = least-runs 0 after run runs are in
    let at : position ≡ run.0 = first ∙ ap (λ o. unwrap_or o after) least in
    let all = AreRuns-all after (run ∷ runs) are small in
    (omega (arith, at), all.1, all.2, all.3)

-- a high is below where the known ones end
pub high-after : (after h : ℕ) (high : Option ℕ) → IfSome high (λ h. h < after) → high ≡ Some h → h < after
high-after after h None below is = cc
high-after after h (Some g) below is = let same : g ≡ h = cc in omega (arith, below, same)
