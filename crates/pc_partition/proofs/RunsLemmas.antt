-- The offsets in runs, and runs of which one is replaced.
use Rattle.std.proofs.Common.{◌≡◌, ℕ, zero, suc, ◌+◌, ◌-◌, ◌^◌, ◌<◌, ◌≤◌, Bool, true, false, not, ◌&&◌, ◌||◌, eqb, ltb, leb, List, [], ◌∷◌, ◌++◌, length, get_or, set, refl, sym, ap, subst, ◌∙◌, arith, add-one, zero-add, add-zero, inl, inr}
use Rattle.std.specs.List.{AllWithin, insert, list_any, range_with_len, remove}
use Rattle.std.specs.List.Sorted.{IsNonDecreasingBy}
use Rattle.std.proofs.lemmas.Bool.{cases_eq, eq-eqb, ne_eqb, le-ltb, ltb-true}
use Rattle.std.proofs.lemmas.Bool.Decides.{nat_tests}
use Rattle.std.proofs.lemmas.List.{append_assoc, append-nil, get_or_default, length-append}
use Rattle.std.proofs.lemmas.List.Folds.{list_any-append}
use Rattle.std.proofs.lemmas.List.Elements.{filter-append}
use Rattle.std.proofs.lemmas.List.FromFn.{length-range_with_len}
use Rattle.pc_model.specs.Bits.{AreRuns, add_run}
use Rattle.pc_model.proofs.BitsLemmas.{AreRuns-lower}
use Rattle.pc_partition.specs.Runs.{IsCut, IsSpliced, TakesOut, offsets_in, splice, without}

-- ---- ranges

pub range-append : (a m n : ℕ) → range_with_len a (m + n) ≡ range_with_len a m ++ range_with_len (a + m) n
range-append a zero n = rw (zero-add, add-zero) refl
range-append a (suc m) n =
    let e : suc m + n ≡ suc (m + n) = omega arith in
    let f : a + 1 + m ≡ a + suc m = omega arith in
    rw e (ap (λ (l : List ℕ). a ∷ l) (range-append (a + 1) m n ∙ rw f refl))

-- whether the offset is in a range
range-any : (o a n : ℕ) → list_any (λ x. eqb x o) (range_with_len a n) ≡ (leb a o && ltb o (a + n))
range-any o a zero = grind (arith, nat_tests)
range-any o a (suc n) = let ih = range-any o (a + 1) n in rw ih (grind (arith, nat_tests))

without-range : (o a n : ℕ) → (b : Bool) → b ≡ (ltb o a || leb (a + n) o) → b ≡ true → without o (range_with_len a n) ≡ range_with_len a n
without-range o a zero b is apart = refl
without-range o a (suc n) b is apart =
    let ne : eqb a o ≡ false = grind (arith, nat_tests) in
    let later : true ≡ (ltb o (a + 1) || leb (a + 1 + n) o) = grind (arith, nat_tests) in
    rw ne (ap (λ (l : List ℕ). a ∷ l) (without-range o (a + 1) n true later refl))

without-below : (o a n : ℕ) → a + n ≤ o → without o (range_with_len a n) ≡ range_with_len a n
without-below o a n below = without-range o a n true (grind (arith, nat_tests)) refl

without-above : (o a n : ℕ) → o < a → without o (range_with_len a n) ≡ range_with_len a n
without-above o a n above = without-range o a n true (grind (arith, nat_tests)) refl

-- ---- the offsets in runs

offsets_in-append : (xs ys : List (ℕ × ℕ)) → offsets_in (xs ++ ys) ≡ offsets_in xs ++ offsets_in ys
offsets_in-append [] ys = refl
offsets_in-append (x ∷ xs) ys = rw (offsets_in-append xs ys, append_assoc) refl

-- whether the offset is in one of the runs
abbrev pub is_in : ℕ → List (ℕ × ℕ) → Bool
is_in o [] = false
is_in o (run ∷ runs) = (leb run.0 o && ltb o (run.0 + run.1)) || is_in o runs

pub list_any-offsets_in : (o : ℕ) (runs : List (ℕ × ℕ)) → list_any (λ x. eqb x o) (offsets_in runs) ≡ is_in o runs
list_any-offsets_in o [] = refl
list_any-offsets_in o (run ∷ runs) =
    list_any-append (λ x. eqb x o) (range_with_len run.0 run.1) (offsets_in runs)
    ∙ rw (range-any o run.0 run.1, list_any-offsets_in o runs) refl

pub is_in-below : (o least count : ℕ) (runs : List (ℕ × ℕ)) → AreRuns least count runs → o < least → is_in o runs ≡ false
is_in-below o least count [] are below = refl
is_in-below o least count (run ∷ runs) are below =
    let ih = is_in-below o (run.0 + run.1 + 1) count runs are.3 (omega (arith, are.0)) in
    let low = are.0 in
    rw ih (grind (arith, nat_tests))

pub is_in-above : (o least count : ℕ) (runs : List (ℕ × ℕ)) → AreRuns least count runs → count ≤ o → is_in o runs ≡ false
is_in-above o least count [] are above = refl
is_in-above o least count (run ∷ runs) are above =
    let ih = is_in-above o (run.0 + run.1 + 1) count runs are.3 above in
    let high = are.2 in
    rw ih (grind (arith, nat_tests))

-- runs that begin after an offset are runs from the offset after it on
AreRuns-after : (o least count : ℕ) (runs : List (ℕ × ℕ)) → AreRuns least count runs
    → ((d : ℕ × ℕ) → 0 < length runs → o < (get_or runs 0 d).0) → AreRuns (o + 1) count runs
AreRuns-after o least count [] are above = tt
AreRuns-after o least count (run ∷ runs) are above =
    let first = above run (omega arith) in (omega (arith, first), are.1, are.2, are.3)

AreRuns-least : (least count : ℕ) (runs : List (ℕ × ℕ)) (i : ℕ) (d : ℕ × ℕ) → AreRuns least count runs
    → i < length runs → least ≤ (get_or runs i d).0
AreRuns-least least count [] i d are within = absurd (omega arith)
AreRuns-least least count (run ∷ runs) zero d are within = are.0
AreRuns-least least count (run ∷ runs) (suc i) d are within =
    let ih = AreRuns-least (run.0 + run.1 + 1) count runs i d are.3 (omega arith) in
    omega (arith, ih, are.0)

IsNonDecreasingBy-cons : (least count : ℕ) (run : ℕ × ℕ) (runs : List (ℕ × ℕ))
    → AreRuns least count (run ∷ runs) → IsNonDecreasingBy (λ run. run.0) runs
    → IsNonDecreasingBy (λ run. run.0) (run ∷ runs)
IsNonDecreasingBy-cons least count run runs are rest zero zero d le within = omega arith
IsNonDecreasingBy-cons least count run runs are rest zero (suc j) d le within =
    let low = AreRuns-least (run.0 + run.1 + 1) count runs j d are.3 (omega arith) in
    omega (arith, low)
IsNonDecreasingBy-cons least count run runs are rest (suc i) zero d le within = absurd (omega arith)
IsNonDecreasingBy-cons least count run runs are rest (suc i) (suc j) d le within =
    rest i j d (omega arith) (omega arith)

-- runs begin in order
pub IsNonDecreasingBy-runs : (least count : ℕ) (runs : List (ℕ × ℕ)) → AreRuns least count runs
    → IsNonDecreasingBy (λ run. run.0) runs
IsNonDecreasingBy-runs least count [] are = λ i j d le within. absurd (omega arith)
IsNonDecreasingBy-runs least count (run ∷ runs) are =
    IsNonDecreasingBy-cons least count run runs are
    (IsNonDecreasingBy-runs (run.0 + run.1 + 1) count runs are.3)

-- an offset that only the run with this index can have
is_in-at : (o least count : ℕ) (runs : List (ℕ × ℕ)) (i : ℕ) (d : ℕ × ℕ) → AreRuns least count runs
    → i < length runs → (get_or runs i d).0 ≤ o
    → ((j : ℕ) (d : ℕ × ℕ) → i < j → j < length runs → o < (get_or runs j d).0)
    → is_in o runs ≡ ltb (o - (get_or runs i d).0) (get_or runs i d).1
is_in-at o least count [] i d are within low above = absurd (omega arith)
is_in-at o least count (run ∷ runs) zero d are within low above =
    let rest = is_in-below o (o + 1) count runs (AreRuns-after o (run.0 + run.1 + 1) count runs are.3
    (λ e some. above 1 e (omega arith) (omega arith))) (omega arith) in
    rw rest (grind (arith, nat_tests))
is_in-at o least count (run ∷ runs) (suc i) d are within low above =
    let ih = is_in-at o (run.0 + run.1 + 1) count runs i d are.3 (omega arith) low
    (λ j e lt inside. above (suc j) e (omega arith) (omega arith)) in
    let start = AreRuns-least (run.0 + run.1 + 1) count runs i d are.3 (omega arith) in
    let past : ltb o (run.0 + run.1) ≡ false = le-ltb o (run.0 + run.1) (omega (arith, start, low)) in
    rw (past, ih) (grind (arith, nat_tests))

-- before all runs
pub is_in-none : (o least count : ℕ) (runs : List (ℕ × ℕ)) → AreRuns least count runs
    → ((d : ℕ × ℕ) → 0 < length runs → o < (get_or runs 0 d).0) → is_in o runs ≡ false
is_in-none o least count runs are above =
    is_in-below o (o + 1) count runs (AreRuns-after o least count runs are above) (omega arith)

-- ---- one run replaced

splice-none : (i : ℕ) (runs : List (ℕ × ℕ)) → i < length runs → remove runs i ≡ splice i [] runs
splice-none i [] within = absurd (omega arith)
splice-none zero (run ∷ runs) within = refl
splice-none (suc i) (run ∷ runs) within =
    ap (λ (l : List (ℕ × ℕ)). run ∷ l) (splice-none i runs (omega arith))

splice-one : (i : ℕ) (one : ℕ × ℕ) (runs : List (ℕ × ℕ)) → i < length runs
    → set runs i one ≡ splice i (one ∷ []) runs
splice-one i one [] within = absurd (omega arith)
splice-one zero one (run ∷ runs) within = refl
splice-one (suc i) one (run ∷ runs) within =
    ap (λ (l : List (ℕ × ℕ)). run ∷ l) (splice-one i one runs (omega arith))

splice-two' : (i : ℕ) (one two : ℕ × ℕ) (runs : List (ℕ × ℕ)) → i < length runs
    → insert (set runs i one) (suc i) two ≡ splice i (one ∷ two ∷ []) runs
splice-two' i one two [] within = absurd (omega arith)
splice-two' zero one two (run ∷ runs) within = refl
splice-two' (suc i) one two (run ∷ runs) within =
    ap (λ (l : List (ℕ × ℕ)). run ∷ l) (splice-two' i one two runs (omega arith))

splice-two : (i : ℕ) (one two : ℕ × ℕ) (runs : List (ℕ × ℕ)) → i < length runs
    → insert (set runs i one) (i + 1) two ≡ splice i (one ∷ two ∷ []) runs
splice-two i one two runs within = rw (add-one i) (splice-two' i one two runs within)

AreRuns-append : (low end count : ℕ) (others runs : List (ℕ × ℕ)) → AreRuns low end others
    → end ≤ count → low ≤ end + 1 → AreRuns (end + 1) count runs → AreRuns low count (others ++ runs)
AreRuns-append low end count [] runs are le fits rest =
    AreRuns-lower low (end + 1) count runs fits rest
AreRuns-append low end count (run ∷ others) runs are le fits rest = (
  are.0,
  are.1,
  omega (arith, are.2),
  AreRuns-append (run.0 + run.1 + 1) end count others runs are.3
      le (omega (arith, are.2)) rest,
)

-- runs within the place of one run are in order there
AreRuns-splice : (least count : ℕ) (i : ℕ) (d : ℕ × ℕ) (others runs : List (ℕ × ℕ))
    → AreRuns least count runs → i < length runs
    → AreRuns (get_or runs i d).0 ((get_or runs i d).0 + (get_or runs i d).1) others
    → AreRuns least count (splice i others runs)
AreRuns-splice least count i d others [] are within fit = absurd (omega arith)
AreRuns-splice least count zero d others (run ∷ runs) are within fit =
    AreRuns-lower least run.0 count (others ++ runs) are.0
    (AreRuns-append run.0 (run.0 + run.1) count others runs fit are.2 (omega arith) are.3)
AreRuns-splice least count (suc i) d others (run ∷ runs) are within fit =
    (are.0, are.1, are.2, AreRuns-splice (run.0 + run.1 + 1) count i d others runs are.3 (omega arith) fit)

without-offsets_below : (o least count : ℕ) (runs : List (ℕ × ℕ)) → AreRuns least count runs
    → o < least → without o (offsets_in runs) ≡ offsets_in runs
without-offsets_below o least count [] are below = refl
without-offsets_below o least count (run ∷ runs) are below =
    filter-append (λ x. not (eqb x o)) (range_with_len run.0 run.1) (offsets_in runs)
    ∙ rw (
      without-above o run.0 run.1 (omega (arith, are.0)),
      without-offsets_below o (run.0 + run.1 + 1) count runs are.3 (omega (arith, are.0)),
    ) refl

-- an offset taken out of one run is taken out of all
TakesOut-splice : (o least count : ℕ) (i : ℕ) (d : ℕ × ℕ) (others runs : List (ℕ × ℕ))
    → AreRuns least count runs → i < length runs → (get_or runs i d).0 ≤ o
    → o < (get_or runs i d).0 + (get_or runs i d).1
    → TakesOut o (range_with_len (get_or runs i d).0 (get_or runs i d).1) (offsets_in others)
    → TakesOut o (offsets_in runs) (offsets_in (splice i others runs))
TakesOut-splice o least count i d others [] are within low high takes = absurd (omega arith)
TakesOut-splice o least count zero d others (run ∷ runs) are within low high takes = record {
  front = takes.front;
  back = takes.back ++ offsets_in runs;
  old_is = ap (λ (l : List ℕ). l ++ offsets_in runs) takes.old_is ∙ append_assoc takes.front (o ∷ takes.back) (offsets_in runs);
  new_is = offsets_in-append others runs ∙ ap (λ (l : List ℕ). l ++ offsets_in runs) takes.new_is ∙ append_assoc takes.front takes.back (offsets_in runs);
  front_apart = takes.front_apart;
  back_apart = filter-append (λ x. not (eqb x o)) takes.back (offsets_in runs)
      ∙ rw (takes.back_apart, without-offsets_below o (run.0 + run.1 + 1) count runs are.3 (omega arith)) refl;
}
TakesOut-splice o least count (suc i) d others (run ∷ runs) are within low high takes =
    let ih = TakesOut-splice o (run.0 + run.1 + 1) count i d others runs are.3 (omega arith) low high takes in
    let start = AreRuns-least (run.0 + run.1 + 1) count runs i d are.3 (omega arith) in
    record {
      front = range_with_len run.0 run.1 ++ ih.front;
      back = ih.back;
      old_is = ap (λ (l : List ℕ). range_with_len run.0 run.1 ++ l) ih.old_is ∙ sym (append_assoc (range_with_len run.0 run.1) ih.front (o ∷ ih.back));
      new_is = ap (λ (l : List ℕ). range_with_len run.0 run.1 ++ l) ih.new_is ∙ sym (append_assoc (range_with_len run.0 run.1) ih.front ih.back);
      front_apart = filter-append (λ x. not (eqb x o)) (range_with_len run.0 run.1) ih.front
          ∙ rw (without-below o run.0 run.1 (omega (arith, start, low)), ih.front_apart) refl;
      back_apart = ih.back_apart;
    }

-- an offset taken out of a range leaves the two ranges beside it
TakesOut-range : (o start before after : ℕ) (others : List (ℕ × ℕ)) → start + before ≡ o
    → offsets_in others ≡ range_with_len start before ++ range_with_len (o + 1) after
    → TakesOut o (range_with_len start (before + 1 + after)) (offsets_in others)
TakesOut-range o start before after others at are = record {
  front = range_with_len start before;
  back = range_with_len (o + 1) after;
  old_is =
      let e : before + 1 + after ≡ before + suc after = omega arith in
      rw (e, range-append start before (suc after), at) refl;
  new_is = are;
  front_apart = without-below o start before (omega arith);
  back_apart = without-above o (o + 1) after (omega arith);
}

-- every run has an offset
pub length-runs : (least count : ℕ) (runs : List (ℕ × ℕ)) → AreRuns least count runs
    → length runs ≤ length (offsets_in runs)
length-runs least count [] are = omega arith
length-runs least count (run ∷ runs) are =
    let ih = length-runs (run.0 + run.1 + 1) count runs are.3 in
    let len = length-append (range_with_len run.0 run.1) (offsets_in runs) in
    let one = length-range_with_len run.0 run.1 in
    omega (arith, ih, len, one, are.1)

-- a run of many leaves room for others
length-runs_at : (least count : ℕ) (runs : List (ℕ × ℕ)) (i : ℕ) (d : ℕ × ℕ) → AreRuns least count runs
    → i < length runs → length runs + (get_or runs i d).1 ≤ length (offsets_in runs) + 1
length-runs_at least count [] i d are within = absurd (omega arith)
length-runs_at least count (run ∷ runs) zero d are within =
    let rest = length-runs (run.0 + run.1 + 1) count runs are.3 in
    let len = length-append (range_with_len run.0 run.1) (offsets_in runs) in
    let one = length-range_with_len run.0 run.1 in
    omega (arith, rest, len, one)
length-runs_at least count (run ∷ runs) (suc i) d are within =
    let ih = length-runs_at (run.0 + run.1 + 1) count runs i d are.3 (omega arith) in
    let len = length-append (range_with_len run.0 run.1) (offsets_in runs) in
    let one = length-range_with_len run.0 run.1 in
    omega (arith, ih, len, one, are.1)

-- the offsets lie between the least and the count
length-offsets_in : (least count : ℕ) (runs : List (ℕ × ℕ)) → least ≤ count + 1
    → AreRuns least count runs → length (offsets_in runs) + least ≤ count + 1
length-offsets_in least count [] fits are = omega arith
length-offsets_in least count (run ∷ runs) fits are =
    let ih = length-offsets_in (run.0 + run.1 + 1) count runs (omega (arith, are.2)) are.3 in
    let len = length-append (range_with_len run.0 run.1) (offsets_in runs) in
    let one = length-range_with_len run.0 run.1 in
    omega (arith, ih, len, one, are.0)

pub AreRuns-get_or : (least count : ℕ) (runs : List (ℕ × ℕ)) (i : ℕ) (d : ℕ × ℕ) → AreRuns least count runs
    → i < length runs → (get_or runs i d).0 + (get_or runs i d).1 ≤ count
AreRuns-get_or least count [] i d are within = absurd (omega arith)
AreRuns-get_or least count (run ∷ runs) zero d are within = are.2
AreRuns-get_or least count (run ∷ runs) (suc i) d are within =
    AreRuns-get_or (run.0 + run.1 + 1) count runs i d are.3 (omega arith)

-- one more offset, above all others
pub offsets_in-add_run : (least o : ℕ) (runs : List (ℕ × ℕ)) → AreRuns least o runs
    → offsets_in (add_run runs o 1) ≡ offsets_in runs ++ o ∷ []
offsets_in-add_run least o [] are = refl
offsets_in-add_run least o (run ∷ []) are = elim (cases_eq (run.0 + run.1) o) [
  | inl touches ↦ rw (eq-eqb (run.0 + run.1) o touches) (append-nil (range_with_len run.0 (run.1 + 1))
      ∙ range-append run.0 run.1 1 ∙ rw (touches, append-nil (range_with_len run.0 run.1)) refl)
  | inr apart ↦ rw (ne_eqb (run.0 + run.1) o apart, append-nil (range_with_len run.0 run.1)) refl
]
offsets_in-add_run least o (run ∷ next ∷ runs) are =
    ap (λ (l : List ℕ). range_with_len run.0 run.1 ++ l) (offsets_in-add_run (run.0 + run.1 + 1) o (next ∷ runs) are.3)
    ∙ sym (append_assoc (range_with_len run.0 run.1) (offsets_in (next ∷ runs)) (o ∷ []))

-- ---- the search for an offset

-- so many of the runs begin at the offset or before it
pub record IsSearched (runs : List (ℕ × ℕ)) (o k : ℕ) : Type 0 where
  pub in_order : AreRuns 0 (2 ^ 63) runs
  pub within : k ≤ length runs
  pub upto : AllWithin (λ (run : ℕ × ℕ). run.0 ≤ o) runs 0 k
  pub above : AllWithin (λ (run : ℕ × ℕ). o < run.0) runs k (length runs)

pub searched-none : (runs : List (ℕ × ℕ)) (o k : ℕ) → IsSearched runs o k → k ≡ 0
    → list_any (λ x. eqb x o) (offsets_in runs) ≡ false
searched-none runs o k is none = list_any-offsets_in o runs
    ∙ is_in-none o 0 (2 ^ 63) runs is.in_order (λ d some. is.above 0 d (omega arith) some)

pub searched-some : (runs : List (ℕ × ℕ)) (o k : ℕ) (d : ℕ × ℕ) → IsSearched runs o k → (k ≡ 0 → ⊥)
    → list_any (λ x. eqb x o) (offsets_in runs)
    ≡ ltb (o - (get_or runs (k - 1) d).0) (get_or runs (k - 1) d).1
searched-some runs o k d is some = list_any-offsets_in o runs
    ∙ is_in-at o 0 (2 ^ 63) runs (k - 1) d is.in_order (omega (arith, is.within, some))
    (is.upto (k - 1) d (omega arith) (omega (arith, some)))
    (λ j e lt inside. is.above j e (omega (arith, lt)) inside)

-- the search finds the run that has the offset
pub searched-not_none : (runs : List (ℕ × ℕ)) (o k : ℕ) → IsSearched runs o k
    → list_any (λ x. eqb x o) (offsets_in runs) ≡ true → 1 ≤ k
searched-not_none runs o zero is has =
    let none = searched-none runs o 0 is refl in
    cc
searched-not_none runs o (suc k) is has = omega arith

pub IsCut-searched : (runs : List (ℕ × ℕ)) (o k : ℕ) → IsSearched runs o k
    → list_any (λ x. eqb x o) (offsets_in runs) ≡ true → IsCut runs (k - 1) o
IsCut-searched runs o k is has =
    let some = searched-not_none runs o k is has in
    let ne : k ≡ 0 → ⊥ = λ (e : k ≡ 0). omega arith in
    record {
      within = omega (arith, some, is.within);
      low = λ d. is.upto (k - 1) d (omega arith) (omega (arith, some));
      high = λ d. let lt = ltb-true _ _ (sym (searched-some runs o k d is ne) ∙ has) in
          let low = is.upto (k - 1) d (omega arith) (omega (arith, some)) in omega (arith, lt, low);
    }

-- ---- the cut of one run

-- the offset is taken out of the runs
pub record IsCutTo (i o : ℕ) (runs new : List (ℕ × ℕ)) : Type 0 where
  pub taken : TakesOut o (offsets_in runs) (offsets_in new)
  pub in_order : (least count : ℕ) → AreRuns least count runs → AreRuns least count new
  pub place : IsSpliced runs i new

module _ (runs : List (ℕ × ℕ)) (i o : ℕ) (run : ℕ × ℕ) (are : AreRuns 0 (2 ^ 63) runs)
    (at : IsCut runs i o) (is : run ≡ get_or runs i run) where
  run-low : run.0 ≤ o
  run-low = subst (λ (r : ℕ × ℕ). r.0 ≤ o) (sym is) (at.low run)

  pub run-high : o < run.0 + run.1
  run-high = subst (λ (r : ℕ × ℕ). o < r.0 + r.1) (sym is) (at.high run)

  pub run-small : run.0 + run.1 ≤ 2 ^ 63
  run-small = subst (λ (r : ℕ × ℕ). r.0 + r.1 ≤ 2 ^ 63) (sym is)
      (AreRuns-get_or 0 (2 ^ 63) runs i run are at.within)

  -- what is left of the run are the offsets before and after
  cut-to : (others : List (ℕ × ℕ)) → offsets_in others ≡ range_with_len run.0 (o - run.0)
      ++ range_with_len (o + 1) (run.1 - (o - run.0) - 1)
      → AreRuns run.0 (run.0 + run.1) others → IsCutTo i o runs (splice i others runs)
  cut-to others left fit =
      let whole : (o - run.0) + 1 + (run.1 - (o - run.0) - 1) ≡ run.1 = omega (arith, run-low, run-high) in
      let at_o : run.0 + (o - run.0) ≡ o = omega (arith, run-low) in
      record {
        taken = TakesOut-splice o 0 (2 ^ 63) i run others runs are at.within (at.low run) (at.high run)
            (subst (λ (r : ℕ × ℕ). TakesOut o (range_with_len r.0 r.1) (offsets_in others)) is
            (subst (λ (z : ℕ). TakesOut o (range_with_len run.0 z) (offsets_in others)) whole
            (TakesOut-range o run.0 (o - run.0) (run.1 - (o - run.0) - 1) others at_o left)));
        in_order = λ least count old. AreRuns-splice least count i run others runs old at.within
            (subst (λ (r : ℕ × ℕ). AreRuns r.0 (r.0 + r.1) others) is fit);
        place = record {
          others = others;
          new_is = refl;
          fit = λ d. subst (λ (r : ℕ × ℕ). AreRuns r.0 (r.0 + r.1) others) (is ∙ get_or_default runs i run d at.within) fit;
        };
      }

  pub cut-none : (new : List (ℕ × ℕ)) → o - run.0 ≡ 0 → run.1 - (o - run.0) - 1 ≡ 0
      → new ≡ remove runs i → IsCutTo i o runs new
  cut-none new before after new_is = rw (new_is, splice-none i runs at.within)
      (cut-to [] (sym (ap (range_with_len run.0) before)
      ∙ sym (append-nil (range_with_len run.0 (o - run.0)))
      ∙ ap (λ (n : ℕ). range_with_len run.0 (o - run.0) ++ range_with_len (o + 1) n) (sym after)) tt)

  pub cut-first : (new : List (ℕ × ℕ)) → o - run.0 ≡ 0 → (run.1 - (o - run.0) - 1 ≡ 0 → ⊥)
      → new ≡ set runs i (o + 1, run.1 - (o - run.0) - 1) → IsCutTo i o runs new
  cut-first new before after new_is =
      rw (new_is, splice-one i (o + 1, run.1 - (o - run.0) - 1) runs at.within)
      (cut-to ((o + 1, run.1 - (o - run.0) - 1) ∷ [])
      (append-nil (range_with_len (o + 1) (run.1 - (o - run.0) - 1)) ∙ rw before refl)
      (omega (arith, run-low), omega (arith, after), omega (arith, run-low, run-high), tt))

  pub cut-last : (new : List (ℕ × ℕ)) → (o - run.0 ≡ 0 → ⊥) → run.1 - (o - run.0) - 1 ≡ 0
      → new ≡ set runs i (run.0, o - run.0) → IsCutTo i o runs new
  cut-last new before after new_is =
      rw (new_is, splice-one i (run.0, o - run.0) runs at.within)
      (cut-to ((run.0, o - run.0) ∷ []) (rw after refl)
      (omega arith, omega (arith, before), omega (arith, run-low, run-high), tt))

  pub cut-middle : (new : List (ℕ × ℕ)) → (o - run.0 ≡ 0 → ⊥) → (run.1 - (o - run.0) - 1 ≡ 0 → ⊥)
      → new ≡ insert (set runs i (run.0, o - run.0)) (i + 1) (o + 1, run.1 - (o - run.0) - 1)
      → IsCutTo i o runs new
  cut-middle new before after new_is =
      rw (new_is, splice-two i (run.0, o - run.0) (o + 1, run.1 - (o - run.0) - 1) runs at.within)
      (cut-to ((run.0, o - run.0) ∷ (o + 1, run.1 - (o - run.0) - 1) ∷ [])
      (ap (λ (l : List ℕ). range_with_len run.0 (o - run.0) ++ l)
      (append-nil (range_with_len (o + 1) (run.1 - (o - run.0) - 1)))) (
        omega arith,
        omega (arith, before),
        omega (arith, run-low, run-high),
        (omega (arith, run-low), omega (arith, after), omega (arith, run-low, run-high), tt),
      ))

  -- a run that is cut in two has room for one more
  pub cut-room : (o - run.0 ≡ 0 → ⊥) → (run.1 - (o - run.0) - 1 ≡ 0 → ⊥)
      → length runs + 2 ≤ length (offsets_in runs)
  cut-room before after =
      let all = subst (λ (r : ℕ × ℕ). length runs + r.1 ≤ length (offsets_in runs) + 1) (sym is)
      (length-runs_at 0 (2 ^ 63) runs i run are at.within) in
      omega (arith, all, before, after)
