-- Marks of the records of a rising log, some of which are polled next.
use Rattle.std.proofs.Common.{◌≡◌, ℕ, zero, suc, ◌+◌, ◌-◌, ◌^◌, ◌≤◌, ◌<◌, Bool, true, false, not, ◌||◌, ◌==◌, List, [], ◌∷◌, ◌++◌, map, length, take, drop, refl, ap, sym, subst, ◌∙◌, arith, inl, inr, add-one}
use Rattle.std.specs.Prelude.{filter, nat_le, nat_lt}
use Rattle.std.specs.List.{list_any}
use Rattle.std.proofs.lemmas.Bool.{cases_Bool, eqb-true, le-leb, lt-leb, ltb-true, ltb-false}
use Rattle.std.proofs.lemmas.List.{append_assoc, append-nil, drop-drop, length-append, length-map, length-take-le, map-append, take-map, take_all, take_at, drop_at}
use Rattle.std.proofs.Math.Seq.{drop-nil}
use Rattle.pc_model.specs.Numbers.{greatest_of}
use Rattle.pc_model.specs.Record.{Record}
use Rattle.pc_model.specs.Marks.{Mark, offsets_of, incomplete_offsets, end_at}
use Rattle.pc_model.proofs.ListLemmas.{same_number, take-add, map-map}
use Rattle.pc_laws.specs.Lists.{In}
use Rattle.pc_laws.proofs.Lists.{true-not-false, In-append, In-append_right, In-filter, In-filtered, In-list_any, list_any-In, greatest_of-In, greatest_of-greatest, greatest_of-none}
use Rattle.pc_laws.proofs.Rising.{Rises, known_of}
use Rattle.pc_laws.proofs.Passing.{option_cases, marks_by, In-incomplete, In-incomplete_offsets, In-offsets, In-offsets_of}
use Rattle.pc_laws.proofs.Blocked.{Rises-drop, drop-above}
use Rattle.pc_laws.proofs.KeptLaw.{none-below, end-le}
use Rattle.pc_partition.specs.Window.{RisesFrom, AreNext, with_polled, new_mark}
use Rattle.pc_partition.proofs.WindowLemmas.{after_last, end_at-rises}

-- ---- records of a rising log, of which the first are known

-- the records below an end
abbrev below : ℕ → List Record → List Record
below end rs = filter (λ r. nat_lt r.offset end) rs

-- the offsets of records
abbrev pub offsets : List Record → List ℕ
offsets rs = map (λ r. r.offset) rs

-- where the first record lies from the end on, none lies below it
none-from : (end n : ℕ) (r : Record) (rs : List Record) → Rises n (r ∷ rs)
    → nat_lt r.offset end ≡ false → below end rs ≡ []
none-from end n r rs rises out =
    none-below end (suc r.offset) rs (end-le end r.offset out) rises.2

-- the first c records are known or new
poll-marks : (f : ℕ → Bool) (end n c : ℕ) (rs : List Record) → Rises n rs
    → ((r : Record) → In r rs → nat_lt r.offset end ≡ false → f r.offset ≡ false)
    → marks_by f (take c rs ++ below end (drop c rs))
    ≡ marks_by f (below end rs) ++ map new_mark (drop (length (below end rs)) (offsets (take c rs)))
poll-marks f end n zero rs rises new =
    rw (drop-nil (length (below end rs))) (sym (append-nil (marks_by f (below end rs))))
poll-marks f end n (suc c) [] rises new = refl
poll-marks f end n (suc c) (r ∷ rs) rises new =
    let more = poll-marks f end (suc r.offset) c rs rises.2 (λ q i. new q (inr i)) in
    elim (cases_Bool (nat_lt r.offset end)) [
      | inl known ↦ rw known
          (ap (λ (ms : List Mark). record { offset = r.offset; is_complete = f r.offset } ∷ ms)
          more)
      | inr out ↦
          let none = none-from end n r rs rises out in
          rw (out, none, new r (inl refl) out)
          (ap (λ (ms : List Mark). new_mark r.offset ∷ ms) (rw none at more))
    ]

-- and those that are known are the first of them
first-known : (end n c : ℕ) (rs : List Record) → Rises n rs
    → take (length (below end rs)) (offsets (take c rs))
    ≡ take (length (offsets (take c rs))) (offsets (below end rs))
first-known end n zero rs rises = take_all (length (below end rs)) [] (omega arith)
first-known end n (suc c) [] rises = refl
first-known end n (suc c) (r ∷ rs) rises = elim (cases_Bool (nat_lt r.offset end)) [
  | inl known ↦ rw known
      (ap (λ (os : List ℕ). r.offset ∷ os) (first-known end (suc r.offset) c rs rises.2))
  | inr out ↦ rw (out, none-from end n r rs rises out) refl
]

-- as many are known as were polled, so there are as many
few-records : (k end : ℕ) (rs : List Record) → k ≤ length (known_of k end rs) → k ≤ length rs
few-records zero end rs few = omega arith
few-records (suc k) end [] few = few
few-records (suc k) end (r ∷ rs) few =
    let more = few-records k end rs (omega (arith, few)) in omega (arith, more)

-- ---- rising offsets

offsets-rise : (b : ℕ) (rs : List Record) → b < 2 ^ 63 → Rises b rs → RisesFrom b (offsets rs)
offsets-rise b [] small rises = small
offsets-rise b (r ∷ rs) small rises =
    let more = offsets-rise (suc r.offset) rs (omega (arith, rises.1)) rises.2 in
    (rises.0, rises.1, rw (add-one r.offset) more)

Rises-take : (c b : ℕ) (rs : List Record) → Rises b rs → Rises b (take c rs)
Rises-take zero b rs rises = tt
Rises-take (suc c) b [] rises = tt
Rises-take (suc c) b (r ∷ rs) rises =
    (rises.0, rises.1, Rises-take c (suc r.offset) rs rises.2)

-- records all of which lie from a number on rise from there
pub Rises-from : (b n : ℕ) (rs : List Record) → Rises n rs → ((r : Record) → In r rs → b ≤ r.offset)
    → Rises b rs
Rises-from b n [] rises from = tt
Rises-from b n (r ∷ rs) rises from = (from r (inl refl), rises.1, rises.2)

-- the rest of some records rises from behind the first of them
rest-rises : (b k c : ℕ) (rs : List Record) → b < 2 ^ 63 → Rises b rs
    → RisesFrom (after_last b (offsets (take k rs))) (offsets (take c (drop k rs)))
rest-rises b zero c rs small rises = offsets-rise b (take c rs) small (Rises-take c b rs rises)
rest-rises b (suc k) c [] small rises = offsets-rise b (take c []) small (Rises-take c b [] tt)
rest-rises b (suc k) c (r ∷ rs) small rises =
    subst (λ (n : ℕ). RisesFrom (after_last n (offsets (take k rs))) (offsets (take c (drop k rs))))
    (sym (add-one r.offset))
    (rest-rises (suc r.offset) k c rs (omega (arith, rises.1)) rises.2)

-- ---- the marks of records, of which the first k were polled

offsets-marks : (f : ℕ → Bool) (rs : List Record) → offsets_of (marks_by f rs) ≡ offsets rs
offsets-marks f rs = map-map (λ (m : Mark). m.offset)
    (λ (r : Record). record { offset = r.offset; is_complete = f r.offset }) rs

module _ (f : ℕ → Bool) (k end : ℕ) (rs : List Record)
    (few : k ≤ length (marks_by f (known_of k end rs))) where
  polled-few : k ≤ length rs
  polled-few = few-records k end rs (rw (length-map {B = Mark} (known_of k end rs)
      (λ (r : Record). record { offset = r.offset; is_complete = f r.offset })) at few)

  pub polled-length : length (take k rs) ≡ k
  polled-length = length-take-le k rs polled-few

  -- how many known records were not polled
  rest-length : length (marks_by f (known_of k end rs)) - k ≡ length (below end (drop k rs))
  rest-length =
      let all : length (marks_by f (known_of k end rs)) ≡ k + length (below end (drop k rs)) =
      length-map (known_of k end rs)
      (λ (r : Record). record { offset = r.offset; is_complete = f r.offset })
      ∙ length-append (take k rs) (below end (drop k rs))
      ∙ ap (λ (n : ℕ). n + length (below end (drop k rs))) polled-length in
      omega (arith, all)

  first-marks : take k (marks_by f (known_of k end rs)) ≡ marks_by f (take k rs)
  first-marks = take-map (λ (r : Record). record { offset = r.offset; is_complete = f r.offset }) k
      (known_of k end rs)
      ∙ ap (λ (qs : List Record). marks_by f qs)
      (take_at (take k rs) (below end (drop k rs)) k polled-length)

  rest-offsets : drop k (offsets_of (marks_by f (known_of k end rs)))
      ≡ offsets (below end (drop k rs))
  rest-offsets =
      ap (λ (os : List ℕ). drop k os) (offsets-marks f (known_of k end rs)
      ∙ map-append (λ (r : Record). r.offset) (take k rs) (below end (drop k rs)))
      ∙ drop_at (offsets (take k rs)) (offsets (below end (drop k rs))) k
      (length-map (take k rs) (λ (r : Record). r.offset) ∙ polled-length)

  -- what is known and polled rises, and the next records rise from behind it
  pub rises-known : (b c : ℕ) → b < 2 ^ 63 → Rises b rs
      → RisesFrom (end_at b (take k (marks_by f (known_of k end rs))))
      (offsets (take c (drop k rs)))
  rises-known b c small rises =
      let first : RisesFrom b (offsets_of (marks_by f (take k rs))) =
      rw (offsets-marks f (take k rs))
      (offsets-rise b (take k rs) small (Rises-take k b rs rises)) in
      rw (first-marks, end_at-rises b (marks_by f (take k rs)) first, offsets-marks f (take k rs))
      (rest-rises b k c rs small rises)

  module _ (n c : ℕ) (rises : Rises n rs) where
    known-more : known_of (k + c) end rs
        ≡ take k rs ++ (take c (drop k rs) ++ below end (drop c (drop k rs)))
    known-more = rw (take-add rs k c, drop-drop c k rs)
        (append_assoc (take k rs) (take c (drop k rs)) (below end (drop (k + c) rs)))

    pub poll-known : ((r : Record) → In r (drop k rs) → nat_lt r.offset end ≡ false
        → f r.offset ≡ false)
        → marks_by f (known_of (k + c) end rs) ≡ with_polled k (marks_by f (known_of k end rs))
        (offsets (take c (drop k rs)))
    poll-known new = rw rest-length
        (ap (λ (qs : List Record). marks_by f qs) known-more
        ∙ map-append (λ (r : Record). record { offset = r.offset; is_complete = f r.offset })
        (take k rs) (take c (drop k rs) ++ below end (drop c (drop k rs)))
        ∙ ap (λ (ms : List Mark). marks_by f (take k rs) ++ ms)
        (poll-marks f end n c (drop k rs) (Rises-drop k n rs rises) new)
        ∙ sym (append_assoc (marks_by f (take k rs)) (marks_by f (below end (drop k rs))) _)
        ∙ ap (λ (ms : List Mark). ms
        ++ map new_mark (drop (length (below end (drop k rs))) (offsets (take c (drop k rs)))))
        (sym (map-append (λ (r : Record). record { offset = r.offset; is_complete = f r.offset })
        (take k rs) (below end (drop k rs)))))

    pub next-known : AreNext k (marks_by f (known_of k end rs)) (offsets (take c (drop k rs)))
    next-known = rw (rest-length, rest-offsets)
        (first-known end n c (drop k rs) (Rises-drop k n rs rises))

-- ---- a record that was not polled

twice : (b : Bool) → b ≡ not (not b)
twice true = refl
twice false = refl

module _ (f : ℕ → Bool) (k end n b : ℕ) (rs : List Record) (rises : Rises n rs) (r : Record)
    (i : In r (drop k rs)) where
  -- a known one lies before the end of the marks
  known-before : nat_lt r.offset end ≡ true
      → nat_le (end_at b (marks_by f (known_of k end rs))) r.offset ≡ false
  unfolding end_at
  known-before known =
      let at : In r (known_of k end rs) = In-append_right r (take k rs) (below end (drop k rs))
      (In-filter (λ (q : Record). nat_lt q.offset end) r (drop k rs) i known) in
      let offset = In-offsets f (known_of k end rs) r at in
      elim (option_cases (greatest_of (offsets_of (marks_by f (known_of k end rs))))) [
        | inl none ↦ absurd (greatest_of-none r.offset _ none offset)
        | inr most ↦
            let le : r.offset ≤ most.0 = greatest_of-greatest most.0 r.offset _ most.1 offset in
            rw most.1 (lt-leb (most.0 + 1) r.offset (omega (arith, le)))
      ]

  -- and another one behind it
  new-behind : b ≤ r.offset → nat_lt r.offset end ≡ false
      → nat_le (end_at b (marks_by f (known_of k end rs))) r.offset ≡ true
  unfolding end_at
  new-behind from out =
      elim (option_cases (greatest_of (offsets_of (marks_by f (known_of k end rs))))) [
        | inl none ↦ rw none (le-leb b r.offset from)
        | inr most ↦
            let q = In-offsets_of f (known_of k end rs) most.0 (greatest_of-In most.0 _ most.1) in
            let is : q.0.offset ≡ most.0 = q.2 in
            let less : q.0.offset < r.offset =
            elim (In-append q.0 (take k rs) (below end (drop k rs)) q.1) [
              | inl polled ↦ drop-above k n rs rises q.0 r polled i
              | inr rest ↦
                  let lt = ltb-true q.0.offset end
                  (In-filtered (λ (x : Record). nat_lt x.offset end) q.0 (drop k rs) rest).1 in
                  let ge = ltb-false r.offset end out in omega (arith, lt, ge)
            ] in
            rw most.1 (le-leb (most.0 + 1) r.offset (omega (arith, less, is)))
      ]

  -- among the incomplete ones stand those that are known and incomplete
  among-incomplete : nat_lt r.offset end ≡ true
      → list_any (λ o. o == r.offset) (incomplete_offsets (marks_by f (known_of k end rs)))
      ≡ not (f r.offset)
  among-incomplete known =
      let at : In r (known_of k end rs) = In-append_right r (take k rs) (below end (drop k rs))
      (In-filter (λ (q : Record). nat_lt q.offset end) r (drop k rs) i known) in
      elim (cases_Bool (f r.offset)) [
        | inr not_done ↦ rw not_done (list_any-In (λ (o : ℕ). o == r.offset) r.offset
            (incomplete_offsets (marks_by f (known_of k end rs)))
            (In-incomplete f (known_of k end rs) r at not_done) (same_number r.offset))
        | inl done ↦ rw done (elim (cases_Bool (list_any (λ o. o == r.offset)
            (incomplete_offsets (marks_by f (known_of k end rs))))) [
              | inr none ↦ none
              | inl some ↦
                  let o = In-list_any (λ (o : ℕ). o == r.offset)
                  (incomplete_offsets (marks_by f (known_of k end rs))) some in
                  let q = In-incomplete_offsets f (known_of k end rs) o.0 o.1 in
                  true-not-false (f r.offset) done
                  (ap f (sym (eqb-true o.0 r.offset o.2)) ∙ q.3)
            ])
      ]

  pub complete-known : b ≤ r.offset → (nat_lt r.offset end ≡ false → f r.offset ≡ false)
      → f r.offset ≡ not (nat_le (end_at b (marks_by f (known_of k end rs))) r.offset
      || list_any (λ o. o == r.offset) (incomplete_offsets (marks_by f (known_of k end rs))))
  complete-known from new = elim (cases_Bool (nat_lt r.offset end)) [
    | inl known ↦ rw (known-before known, among-incomplete known) (twice (f r.offset))
    | inr out ↦ rw (new-behind from out) (new out)
  ]
