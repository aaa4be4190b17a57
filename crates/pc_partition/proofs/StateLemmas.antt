-- What the fields of a state say of each other, when an offset comes or is completed.
use Rattle.std.proofs.Common.{◌≡◌, ℕ, zero, suc, ◌+◌, ◌-◌, ◌^◌, ◌<◌, ◌≤◌, max, min, Bool, true, false, not, ◌||◌, cond, eqb, ltb, List, [], ◌∷◌, ◌++◌, length, filter, Option, Some, None, IfSome, refl, sym, ap, subst, ◌∙◌, arith, inl, inr}
use Rattle.std.specs.List.{AllByRecursion, list_any, range_with_len, slice_get}
use Rattle.std.specs.Option.{option_map_or, unwrap_or}
use Rattle.std.proofs.lemmas.Bool.{cases_Bool, cases_lt, eq-eqb, ne_eqb, lt-ltb, le-ltb}
use Rattle.std.proofs.lemmas.List.{append-nil, length-append}
use Rattle.std.proofs.lemmas.List.Elements.{filter-append}
use Rattle.std.proofs.lemmas.List.Folds.{list_any-append}
use Rattle.pc_model.specs.Bits.{AreRuns, add_run}
use Rattle.pc_model.proofs.BitsLemmas.{AreRuns-more, AreRuns-add_run}
use Rattle.pc_model.specs.Numbers.{least_of}
use Rattle.pc_model.specs.Marks.{Mark, end_at, position_at}
use Rattle.pc_partition.specs.declared.counts.Counts.{Counts}
use Rattle.pc_partition.specs.Counts.{AreCounted, IsCounted, counts_of, end_of}
use Rattle.pc_partition.specs.Runs.{TakesOut, offsets_in, without}
use Rattle.pc_partition.specs.Window.{IsState, StandsFor, Window}
use Rattle.pc_partition.proofs.CountsLemmas.{upto-add_run}
use Rattle.pc_partition.proofs.RunsLemmas.{is_in-above, list_any-offsets_in, offsets_in-add_run}

-- ---- runs

pub AreRuns-upto : (after o : ℕ) (runs : List (ℕ × ℕ)) → AreRuns 0 after runs → after ≤ o → AreRuns 0 o runs
AreRuns-upto after o runs are le =
    let e : after + (o - after) ≡ o = omega arith in
    subst (λ (n : ℕ). AreRuns 0 n runs) e (AreRuns-more 0 after (o - after) runs are)

pub AreRuns-all : (after : ℕ) (runs : List (ℕ × ℕ)) → AreRuns 0 after runs → after < 2 ^ 63 → AreRuns 0 (2 ^ 63) runs
AreRuns-all after runs are small = AreRuns-upto after (2 ^ 63) runs are (omega arith)

filter-range : (p a n : ℕ) → a + n ≤ p → filter (λ o. ltb o p) (range_with_len a n) ≡ range_with_len a n
filter-range p a zero le = refl
filter-range p a (suc n) le = rw (lt-ltb a p (omega arith))
    (ap (λ (l : List ℕ). a ∷ l) (filter-range p (a + 1) n (omega arith)))

-- all offsets lie below where the runs end
filter-runs : (p least count : ℕ) (runs : List (ℕ × ℕ)) → AreRuns least count runs → count ≤ p
    → filter (λ o. ltb o p) (offsets_in runs) ≡ offsets_in runs
filter-runs p least count [] are le = refl
filter-runs p least count (run ∷ runs) are le =
    filter-append (λ o. ltb o p) (range_with_len run.0 run.1) (offsets_in runs)
    ∙ rw (
      filter-range p run.0 run.1 (omega (arith, are.2, le)),
      filter-runs p (run.0 + run.1 + 1) count runs are.3 le,
    ) refl

-- ---- the position

range-from : (b a n : ℕ) → b ≤ a → AllByRecursion (λ o. b ≤ o) (range_with_len a n)
range-from b a zero le = tt
range-from b a (suc n) le = (le, range-from b (a + 1) n (omega arith))

all-append : (b : ℕ) (xs ys : List ℕ) → AllByRecursion (λ o. b ≤ o) xs → AllByRecursion (λ o. b ≤ o) ys
    → AllByRecursion (λ o. b ≤ o) (xs ++ ys)
all-append b [] ys p q = q
all-append b (x ∷ xs) ys p q = (p.0, all-append b xs ys p.1 q)

runs-from : (b least count : ℕ) (runs : List (ℕ × ℕ)) → AreRuns least count runs → b ≤ least
    → AllByRecursion (λ o. b ≤ o) (offsets_in runs)
runs-from b least count [] are le = tt
runs-from b least count (run ∷ runs) are le = all-append b (range_with_len run.0 run.1) (offsets_in runs)
    (range-from b run.0 run.1 (omega (arith, are.0)))
    (runs-from b (run.0 + run.1 + 1) count runs are.3 (omega (arith, are.0)))

least-from : (b x : ℕ) (xs : List ℕ) → b ≤ x → AllByRecursion (λ o. b ≤ o) xs
    → b ≤ option_map_or (min x) (least_of xs) x
least-from b x [] le all = le
least-from b x (y ∷ ys) le all = let ih = least-from b y ys all.0 all.1 in omega (arith, ih)

least-first : (x : ℕ) (xs : List ℕ) → AllByRecursion (λ o. x ≤ o) xs → least_of (x ∷ xs) ≡ Some x
least-first x [] all = refl
least-first x (y ∷ ys) all =
    let le = least-from x y ys all.0 all.1 in
    let same : min x (option_map_or (min y) (least_of ys) y) ≡ x = omega (arith, le) in
    ap Some same

-- the first run begins at the least incomplete offset
pub least-runs : (least count : ℕ) (run : ℕ × ℕ) (runs : List (ℕ × ℕ)) → AreRuns least count (run ∷ runs)
    → least_of (offsets_in (run ∷ runs)) ≡ Some run.0
least-runs least count (start, zero) runs are = absurd (omega (arith, are.1))
least-runs least count (start, suc size) runs are =
    least-first start (range_with_len (start + 1) size ++ offsets_in runs)
    (all-append start (range_with_len (start + 1) size) (offsets_in runs)
    (range-from start (start + 1) size (omega arith))
    (runs-from start (start + suc size + 1) count runs are.3 (omega arith)))

position-some : (w : Window) (b n : ℕ) (marks : List Mark) (least count : ℕ) (run : ℕ × ℕ) (runs : List (ℕ × ℕ))
    → StandsFor w b n marks → w.incomplete ≡ offsets_in (run ∷ runs) → AreRuns least count (run ∷ runs)
    → run.0 ≡ position_at b marks
unfolding position_at
position-some w b n marks least count run runs is incomplete are =
    sym (ap (λ o. unwrap_or o (end_at b marks)) (ap least_of (sym is.incomplete ∙ incomplete) ∙ least-runs least count run runs are))

pub position-none : (w : Window) (b n : ℕ) (marks : List Mark) → StandsFor w b n marks → w.incomplete ≡ []
    → w.after ≡ position_at b marks
unfolding position_at
position-none w b n marks is none = is.after
    ∙ sym (ap (λ o. unwrap_or o (end_at b marks)) (ap least_of (sym is.incomplete ∙ none)))

-- ---- what is counted

end-small : (after : ℕ) (high : Option ℕ) → IfSome high (λ h. h < after) → after < 2 ^ 63 → end_of high ≤ 2 ^ 63
end-small after None below small = omega arith
end-small after (Some h) below small = omega (arith, below, small)

pub IsCounted-state : (runs : List (ℕ × ℕ)) (high : Option ℕ) (counts : Counts) (after polled_to pending left capacity : ℕ)
    → IsState runs high counts after polled_to pending left capacity → IsCounted runs high counts
IsCounted-state runs high counts after polled_to pending left capacity is = record {
  in_order = AreRuns-all after runs is.in_order is.small;
  small = end-small after high is.high_below is.small;
  apart = is.high_apart;
  counted = is.counted;
}

-- ---- one more offset

apart-append : (o : ℕ) (high : Option ℕ) (offsets : List ℕ) → IfSome high (λ h. h < o)
    → IfSome high (λ h. list_any (λ x. eqb x h) offsets ≡ false)
    → IfSome high (λ h. list_any (λ x. eqb x h) (offsets ++ o ∷ []) ≡ false)
apart-append o None offsets below apart = tt
apart-append o (Some h) offsets below apart = list_any-append (λ x. eqb x h) offsets (o ∷ [])
    ∙ rw apart (rw (ne_eqb o h (λ (e : o ≡ h). omega (arith, below, e))) refl)

below-more : (after o : ℕ) (high : Option ℕ) → IfSome high (λ h. h < after) → after ≤ o → IfSome high (λ h. h < o)
below-more after o None below le = tt
below-more after o (Some h) below le = omega (arith, below, le)

-- an incomplete offset above the known ones
pub IsState-append : (runs : List (ℕ × ℕ)) (high : Option ℕ) (counts : Counts) (after polled_to pending left capacity o : ℕ)
    → IsState runs high counts after polled_to pending left capacity → after ≤ o → o < 2 ^ 63 - 1 → left < capacity
    → IsState (add_run runs o 1) high counts (o + 1) polled_to pending (left + 1) capacity
IsState-append runs high counts after polled_to pending left capacity o is above small room =
    let upto = AreRuns-upto after o runs is.in_order above in
    let offsets = offsets_in-add_run 0 o runs upto in
    record {
      in_order = AreRuns-add_run 0 o 1 runs (omega arith) (omega arith) upto;
      high_below = below-more after (o + 1) high is.high_below (omega arith);
      high_apart = subst (λ (l : List ℕ). IfSome high (λ h. list_any (λ x. eqb x h) l ≡ false)) (sym offsets)
          (apart-append o high (offsets_in runs) (below-more after o high is.high_below above) is.high_apart);
      counted = record {
        are = is.counted.are ∙ ap (λ (l : List (ℕ × ℕ)). counts_of (end_of high) l)
            (sym (upto-add_run high o runs upto (below-more after o high is.high_below above) is.high_apart));
        few = is.counted.few;
      };
      polled_within = omega (arith, is.polled_within);
      small = omega arith;
      pending_is = is.pending_is ∙ ap (λ (l : List ℕ). length l)
          (sym (ap (filter (λ x. ltb x polled_to)) offsets
          ∙ filter-append (λ x. ltb x polled_to) (offsets_in runs) (o ∷ [])
          ∙ rw (le-ltb o polled_to (omega (arith, is.polled_within))) (append-nil (filter (λ x. ltb x polled_to) (offsets_in runs)))));
      left_is = let len = length-append (offsets_in runs) (o ∷ []) in
          ap (λ n. n + 1) is.left_is ∙ sym (ap (λ (l : List ℕ). length l) offsets ∙ len);
      room = omega arith;
    }

-- a complete offset above the known ones
pub IsState-complete : (runs : List (ℕ × ℕ)) (high : Option ℕ) (counts counts' : Counts) (after polled_to pending left capacity o : ℕ)
    → IsState runs high counts after polled_to pending left capacity → after ≤ o → o < 2 ^ 63 - 1
    → AreCounted (Some o) runs counts' → IsState runs (Some o) counts' (o + 1) polled_to pending left capacity
IsState-complete runs high counts counts' after polled_to pending left capacity o is above small counted = record {
  counted = counted;
  in_order = AreRuns-upto after (o + 1) runs is.in_order (omega arith);
  high_below = omega arith;
  high_apart = list_any-offsets_in o runs ∙ is_in-above o 0 after runs is.in_order above;
  polled_within = omega (arith, is.polled_within);
  small = omega arith;
  pending_is = is.pending_is;
  left_is = is.left_is;
  room = is.room;
}

pub position-first : (w : Window) (b n : ℕ) (marks : List Mark) (after : ℕ) (runs : List (ℕ × ℕ)) (run : ℕ × ℕ)
    → StandsFor w b n marks → w.incomplete ≡ offsets_in runs → AreRuns 0 after runs
    → slice_get runs 0 ≡ Some run → run.0 ≡ position_at b marks
position-first w b n marks after [] run is incomplete are first = cc
position-first w b n marks after (one ∷ runs) run is incomplete are first =
    let same : one ≡ run = cc in
    ap (λ (r : ℕ × ℕ). r.0) (sym same) ∙ position-some w b n marks 0 after one runs is incomplete are

pub position-no_first : (w : Window) (b n : ℕ) (marks : List Mark) (runs : List (ℕ × ℕ))
    → StandsFor w b n marks → w.incomplete ≡ offsets_in runs → slice_get runs 0 ≡ None
    → w.after ≡ position_at b marks
position-no_first w b n marks [] is incomplete first = position-none w b n marks is incomplete
position-no_first w b n marks (one ∷ runs) is incomplete first = cc

-- ---- polls

-- a new offset, where all that are known were polled
pub IsState-poll_new : (runs : List (ℕ × ℕ)) (high : Option ℕ) (counts : Counts) (after polled_to pending left capacity o : ℕ)
    → IsState runs high counts after polled_to pending left capacity → after ≤ o → o < 2 ^ 63 - 1 → left < capacity
    → polled_to ≡ after
    → IsState (add_run runs o 1) high counts (o + 1) (o + 1) (pending + 1) (left + 1) capacity
IsState-poll_new runs high counts after polled_to pending left capacity o is above small room all =
    let more = IsState-append runs high counts after polled_to pending left capacity o is above small room in
    let old = filter-runs polled_to 0 after runs is.in_order (omega (arith, all)) in
    let new = filter-runs (o + 1) 0 (o + 1) (add_run runs o 1) more.in_order (omega arith) in
    let old_count = ap (λ (l : List ℕ). length l) old in
    let new_count = ap (λ (l : List ℕ). length l) new in
    record {
      in_order = more.in_order;
      high_below = more.high_below;
      high_apart = more.high_apart;
      counted = more.counted;
      polled_within = omega arith;
      small = more.small;
      pending_is = omega (arith, old_count, new_count, is.pending_is, is.left_is, more.left_is);
      left_is = more.left_is;
      room = more.room;
    }

-- an offset that was known
pub IsState-poll_known : (runs : List (ℕ × ℕ)) (high : Option ℕ) (counts : Counts) (after polled_to pending left capacity o pending' : ℕ)
    → IsState runs high counts after polled_to pending left capacity → o < after
    → length (filter (λ x. ltb x (o + 1)) (offsets_in runs)) ≡ length (filter (λ x. ltb x polled_to) (offsets_in runs))
    + cond (list_any (λ x. eqb x o) (offsets_in runs)) 1 0
    → pending' ≡ pending + cond (list_any (λ x. eqb x o) (offsets_in runs)) 1 0
    → IsState runs high counts after (o + 1) pending' left capacity
IsState-poll_known runs high counts after polled_to pending left capacity o pending' is known count more = record {
  in_order = is.in_order;
  high_below = is.high_below;
  high_apart = is.high_apart;
  counted = is.counted;
  polled_within = omega arith;
  small = is.small;
  pending_is = omega (arith, count, more, is.pending_is);
  left_is = is.left_is;
  room = is.room;
}

-- ---- a success

or-false-left : (a b : Bool) → (a || b) ≡ false → a ≡ false
or-false-left true b e = cc
or-false-left false b e = refl

or-false-right : (a b : Bool) → (a || b) ≡ false → b ≡ false
or-false-right true b e = cc
or-false-right false b e = e

length-without : (o : ℕ) (xs : List ℕ) → length (without o xs) ≤ length xs
length-without o [] = omega arith
length-without o (x ∷ xs) = let ih = length-without o xs in
    elim (eqb x o) as (λ b. length (cond (not b) (x ∷ without o xs) (without o xs)) ≤ suc (length xs)) [
      | true ↦ omega (arith, ih)
      | false ↦ omega (arith, ih)
    ]

any-apart : (o : ℕ) (xs : List ℕ) → without o xs ≡ xs → list_any (λ x. eqb x o) xs ≡ false
any-apart o [] apart = refl
any-apart o (x ∷ xs) apart = elim (cases_Bool (eqb x o)) [
  | inl t ↦
      let less = length-without o xs in
      let same = ap (λ (l : List ℕ). length l) (rw t at apart) in
      absurd (omega (arith, less, same))
  | inr f ↦ let rest : x ∷ without o xs ≡ x ∷ xs = rw f at apart in
      rw f (any-apart o xs (cc rest))
]

-- the others are those without it
TakesOut-without : (o : ℕ) (old new : List ℕ) → TakesOut o old new → new ≡ without o old
TakesOut-without o old new takes = takes.new_is ∙ sym (ap (without o) takes.old_is
    ∙ filter-append (λ x. not (eqb x o)) takes.front (o ∷ takes.back)
    ∙ rw (takes.front_apart, eq-eqb o o refl, takes.back_apart) refl)

TakesOut-length : (o : ℕ) (old new : List ℕ) → TakesOut o old new → length old ≡ length new + 1
TakesOut-length o old new takes =
    let a = ap (λ (l : List ℕ). length l) takes.old_is in
    let b = ap (λ (l : List ℕ). length l) takes.new_is in
    let c = length-append takes.front (o ∷ takes.back) in
    let d = length-append takes.front takes.back in
    omega (arith, a, b, c, d)

count-taken : (o p : ℕ) (front back : List ℕ) → length (filter (λ x. ltb x p) (front ++ o ∷ back))
    ≡ length (filter (λ x. ltb x p) (front ++ back)) + cond (ltb o p) 1 0
count-taken o p front back =
    let a = ap (λ (l : List ℕ). length l) (filter-append (λ x. ltb x p) front (o ∷ back)) in
    let b = ap (λ (l : List ℕ). length l) (filter-append (λ x. ltb x p) front back) in
    let c = length-append (filter (λ x. ltb x p) front) (filter (λ x. ltb x p) (o ∷ back)) in
    let d = length-append (filter (λ x. ltb x p) front) (filter (λ x. ltb x p) back) in
    a ∙ c ∙ (elim (ltb o p) as (λ t. length (filter (λ x. ltb x p) front) + length (cond t (o ∷ filter (λ x. ltb x p) back) (filter (λ x. ltb x p) back))
    ≡ length (filter (λ x. ltb x p) (front ++ back)) + cond t 1 0) [
      | true ↦ omega (arith, b, d)
      | false ↦ omega (arith, b, d)
    ])

-- how many open ones are left
TakesOut-count : (o p : ℕ) (old new : List ℕ) → TakesOut o old new
    → length (filter (λ x. ltb x p) old) ≡ length (filter (λ x. ltb x p) new) + cond (ltb o p) 1 0
TakesOut-count o p old new takes = rw (takes.old_is, takes.new_is) (count-taken o p takes.front takes.back)

-- which of the others are there
TakesOut-any : (o h : ℕ) (old new : List ℕ) → TakesOut o old new → list_any (λ x. eqb x h) old ≡ false
    → list_any (λ x. eqb x h) new ≡ false
TakesOut-any o h old new takes none =
    let whole = rw (takes.old_is, list_any-append (λ x. eqb x h) takes.front (o ∷ takes.back)) at none in
    let front = or-false-left (list_any (λ x. eqb x h) takes.front) _ whole in
    let rest = or-false-right (list_any (λ x. eqb x h) takes.front) _ whole in
    let back = or-false-right (eqb o h) _ rest in
    ap (list_any (λ x. eqb x h)) takes.new_is ∙ list_any-append (λ x. eqb x h) takes.front takes.back
    ∙ rw (front, back) refl

TakesOut-gone : (o : ℕ) (old new : List ℕ) → TakesOut o old new → list_any (λ x. eqb x o) new ≡ false
TakesOut-gone o old new takes = ap (list_any (λ x. eqb x o)) takes.new_is
    ∙ list_any-append (λ x. eqb x o) takes.front takes.back
    ∙ rw (any-apart o takes.front takes.front_apart, any-apart o takes.back takes.back_apart) refl

pub high-taken : (o after : ℕ) (high : Option ℕ) (old new : List ℕ) → TakesOut o old new → o < after
    → IfSome high (λ h. h < after) → IfSome high (λ h. list_any (λ x. eqb x h) old ≡ false)
    → (option_map_or (max o) high o < after)
    × (list_any (λ x. eqb x (option_map_or (max o) high o)) new ≡ false)
high-taken o after None old new takes low below apart = (low, TakesOut-gone o old new takes)
high-taken o after (Some h) old new takes low below apart = elim (cases_lt o h) [
  | inl less ↦ let top : max o h ≡ h = omega arith in rw top (below, TakesOut-any o h old new takes apart)
  | inr more ↦ let top : max o h ≡ o = omega arith in rw top (low, TakesOut-gone o old new takes)
]

IsState-taken : (runs new : List (ℕ × ℕ)) (high : Option ℕ) (counts counts' : Counts) (after polled_to pending left capacity o pending' left' capacity' : ℕ)
    → IsState runs high counts after polled_to pending left capacity
    → list_any (λ x. eqb x o) (offsets_in runs) ≡ true
    → TakesOut o (offsets_in runs) (offsets_in new) → AreRuns 0 after new
    → AreCounted (Some (option_map_or (max o) high o)) new counts' → capacity ≤ capacity'
    → pending ≡ pending' + cond (ltb o polled_to) 1 0 → left ≡ left' + 1
    → IsState new (Some (option_map_or (max o) high o)) counts' after polled_to pending' left' capacity'
IsState-taken runs new high counts counts' after polled_to pending left capacity o pending' left' capacity' is has takes are counted more fewer less =
    let low : o < after = elim (cases_lt o after) [
      | inl lt ↦ lt
      | inr ge ↦ let none = list_any-offsets_in o runs ∙ is_in-above o 0 after runs is.in_order ge in cc
    ] in
    let top = high-taken o after high (offsets_in runs) (offsets_in new) takes low is.high_below is.high_apart in
    let count = TakesOut-count o polled_to (offsets_in runs) (offsets_in new) takes in
    let len = TakesOut-length o (offsets_in runs) (offsets_in new) takes in
    record {
      in_order = are;
      high_below = top.0;
      high_apart = top.1;
      counted = counted;
      polled_within = is.polled_within;
      small = is.small;
      pending_is = omega (arith, count, fewer, is.pending_is);
      left_is = omega (arith, len, less, is.left_is);
      room = omega (arith, more, less, is.room);
    }

left-taken : (o left : ℕ) (old new : List ℕ) → TakesOut o old new → left ≡ length old → left ≡ left - 1 + 1
left-taken o left old new takes is = let len = TakesOut-length o old new takes in omega (arith, len, is)

-- a polled offset that was open
pub IsState-taken_polled : (runs new : List (ℕ × ℕ)) (high : Option ℕ) (counts counts' : Counts) (after polled_to pending left capacity o capacity' : ℕ)
    → IsState runs high counts after polled_to pending left capacity
    → list_any (λ x. eqb x o) (offsets_in runs) ≡ true
    → TakesOut o (offsets_in runs) (offsets_in new) → AreRuns 0 after new
    → AreCounted (Some (option_map_or (max o) high o)) new counts' → capacity ≤ capacity' → o < polled_to
    → IsState new (Some (option_map_or (max o) high o)) counts' after polled_to (pending - 1) (left - 1) capacity'
IsState-taken_polled runs new high counts counts' after polled_to pending left capacity o capacity' is has takes are counted more polled =
    let test = lt-ltb o polled_to polled in
    let count = rw test at (TakesOut-count o polled_to (offsets_in runs) (offsets_in new) takes) in
    let fewer : pending ≡ pending - 1 + 1 = omega (arith, count, is.pending_is) in
    IsState-taken runs new high counts counts' after polled_to pending left capacity o (pending - 1) (left - 1) capacity' is has takes are counted more
    (rw test fewer) (left-taken o left (offsets_in runs) (offsets_in new) takes is.left_is)

-- an offset that was not polled
pub IsState-taken_unpolled : (runs new : List (ℕ × ℕ)) (high : Option ℕ) (counts counts' : Counts) (after polled_to pending left capacity o capacity' : ℕ)
    → IsState runs high counts after polled_to pending left capacity
    → list_any (λ x. eqb x o) (offsets_in runs) ≡ true
    → TakesOut o (offsets_in runs) (offsets_in new) → AreRuns 0 after new
    → AreCounted (Some (option_map_or (max o) high o)) new counts' → capacity ≤ capacity' → polled_to ≤ o
    → IsState new (Some (option_map_or (max o) high o)) counts' after polled_to pending (left - 1) capacity'
IsState-taken_unpolled runs new high counts counts' after polled_to pending left capacity o capacity' is has takes are counted more unpolled =
    let test = le-ltb o polled_to unpolled in
    let same : pending ≡ pending + 0 = omega arith in
    IsState-taken runs new high counts counts' after polled_to pending left capacity o pending (left - 1) capacity' is has takes are counted more
    (rw test same) (left-taken o left (offsets_in runs) (offsets_in new) takes is.left_is)

-- there was one to take
left-some : (o left : ℕ) (old new : List ℕ) → TakesOut o old new → left ≡ length old → 1 ≤ left
left-some o left old new takes is = let len = TakesOut-length o old new takes in omega (arith, len, is)

pending-some : (o polled_to pending : ℕ) (old new : List ℕ) → TakesOut o old new
    → pending ≡ length (filter (λ x. ltb x polled_to) old) → o < polled_to → 1 ≤ pending
pending-some o polled_to pending old new takes is polled =
    let count = rw (lt-ltb o polled_to polled) at (TakesOut-count o polled_to old new takes) in omega (arith, count, is)

-- ---- the start

pub IsState-start : (b capacity : ℕ) → b < 2 ^ 63 → IsState [] None (counts_of 0 []) b b 0 0 capacity
IsState-start b capacity small = record {
  in_order = tt;
  high_below = tt;
  high_apart = tt;
  counted = record { are = refl; few = omega arith };
  polled_within = omega arith;
  small = small;
  pending_is = refl;
  left_is = refl;
  room = omega arith;
}

-- ---- the least, read at the first run

pub least-first_run : (after : ℕ) (runs : List (ℕ × ℕ)) (run : ℕ × ℕ) → AreRuns 0 after runs
    → slice_get runs 0 ≡ Some run → run.0 ≡ unwrap_or (least_of (offsets_in runs)) after
least-first_run after [] run are first = cc
least-first_run after (one ∷ runs) run are first =
    let same : one ≡ run = cc in
    ap (λ (r : ℕ × ℕ). r.0) (sym same) ∙ sym (ap (λ o. unwrap_or o after) (least-runs 0 after one runs are))

pub least-no_run : (after : ℕ) (runs : List (ℕ × ℕ)) → slice_get runs 0 ≡ None
    → after ≡ unwrap_or (least_of (offsets_in runs)) after
least-no_run after [] first = refl
least-no_run after (one ∷ runs) first = cc
