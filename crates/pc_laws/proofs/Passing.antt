-- A commit of a part passes over no record of its log from the begin on that is not complete.
use Rattle.std.proofs.Common.{◌≡◌, ◌⊎◌, ℕ, ◌+◌, ◌-◌, ◌≤◌, ◌<◌, ◌^◌, Bool, true, false, not, ◌==◌, List, [], ◌∷◌, map, length, Option, Some, None, refl, ap, sym, ◌∙◌, arith, inl, inr, eq-eqb, get_or}
use Rattle.std.specs.Prelude.{nat_le, IsSome}
use Rattle.std.specs.List.{list_any}
use Rattle.std.proofs.lemmas.Bool.{cases_Bool, cases_lt, ltb-true}
use Rattle.std.proofs.lemmas.List.{get_or_past}
use Rattle.std.proofs.lemmas.List.FromFn.{get_or-map-range_with_len, length-map-range_with_len}
use Rattle.pc_model.specs.Record.{Record}
use Rattle.pc_model.specs.Numbers.{least_of, greatest_of}
use Rattle.pc_model.specs.Bits.{bits_between}
use Rattle.pc_model.specs.MapReading.{map_reading}
use Rattle.pc_model.specs.BestMap.{best_map, limited, shortest_text}
use Rattle.pc_model.specs.Stored.{map_bits, passes}
use Rattle.pc_model.specs.Marks.{Mark, offsets_of, complete_offsets, incomplete_offsets, high_at, end_at, position_at, bits_at, commit_at}
use Rattle.pc_model.proofs.BestMapLemmas.{map_reading-best_map}
use Rattle.pc_laws.proofs.Lists.{In, In-map, In-mapped, In-filter, In-filtered, list_any-In, or-cases, not-true, true-not-false, least_of-In, least_of-least, least_of-none, greatest_of-In}
use Rattle.pc_laws.proofs.Rising.{Rises, Rises-In, known_of, known_of-below, known_of-In}

-- there is a value or there is none
pub option_cases : {X : Type 0} (o : Option X) → (o ≡ None) ⊎ ((x : X) × (o ≡ Some x))
option_cases None = inl refl
option_cases (Some x) = inr (x, refl)

-- the marks of some records under a test
abbrev pub marks_by : (ℕ → Bool) → List Record → List Mark
marks_by f rs = map (λ r. record { offset = r.offset; is_complete = f r.offset }) rs

module _ (f : ℕ → Bool) (rs : List Record) where
  pub In-incomplete : (r : Record) → In r rs → f r.offset ≡ false → In r.offset
      (incomplete_offsets (marks_by f rs))
  In-incomplete r i e =
      In-map (λ (m : Mark). m.offset) (record { offset = r.offset; is_complete = f r.offset }) _
      (In-filter (λ (m : Mark). not m.is_complete)
      (record { offset = r.offset; is_complete = f r.offset }) _
      (In-map (λ (q : Record). record { offset = q.offset; is_complete = f q.offset }) r rs i)
      (rw e refl))

  pub In-incomplete_offsets : (o : ℕ) → In o (incomplete_offsets (marks_by f rs)) →
      (r : Record) × In r rs × (r.offset ≡ o) × (f o ≡ false)
  In-incomplete_offsets o i =
      let at = In-mapped (λ (m : Mark). m.offset) o _ i in
      let open_mark = In-filtered (λ (m : Mark). not m.is_complete) at.0 (marks_by f rs) at.1 in
      let by = In-mapped (λ (q : Record). record { offset = q.offset; is_complete = f q.offset })
      at.0 rs open_mark.0 in
      let offset : by.0.offset ≡ o = ap (λ (m : Mark). m.offset) by.2 ∙ at.2 in
      let complete : f by.0.offset ≡ at.0.is_complete = ap (λ (m : Mark). m.is_complete) by.2 in
      (by.0, by.1, offset, ap f (sym offset) ∙ complete ∙ not-true at.0.is_complete open_mark.1)

  pub In-complete_offsets : (o : ℕ) → In o (complete_offsets (marks_by f rs)) →
      (r : Record) × In r rs × (r.offset ≡ o) × (f o ≡ true)
  In-complete_offsets o i =
      let at = In-mapped (λ (m : Mark). m.offset) o _ i in
      let done = In-filtered (λ (m : Mark). m.is_complete) at.0 (marks_by f rs) at.1 in
      let by = In-mapped (λ (q : Record). record { offset = q.offset; is_complete = f q.offset })
      at.0 rs done.0 in
      let offset : by.0.offset ≡ o = ap (λ (m : Mark). m.offset) by.2 ∙ at.2 in
      let complete : f by.0.offset ≡ at.0.is_complete = ap (λ (m : Mark). m.is_complete) by.2 in
      (by.0, by.1, offset, ap f (sym offset) ∙ complete ∙ done.1)

  pub In-offsets : (r : Record) → In r rs → In r.offset (offsets_of (marks_by f rs))
  In-offsets r i = In-map (λ (m : Mark). m.offset)
      (record { offset = r.offset; is_complete = f r.offset }) _
      (In-map (λ (q : Record). record { offset = q.offset; is_complete = f q.offset }) r rs i)

  pub In-offsets_of : (o : ℕ) → In o (offsets_of (marks_by f rs)) →
      (r : Record) × In r rs × (r.offset ≡ o)
  In-offsets_of o i =
      let at = In-mapped (λ (m : Mark). m.offset) o _ i in
      let by = In-mapped (λ (q : Record). record { offset = q.offset; is_complete = f q.offset })
      at.0 rs at.1 in
      (by.0, by.1, ap (λ (m : Mark). m.offset) by.2 ∙ at.2)

-- ---- the map of a commit

-- a map without a letter has no text
limited-none : (limit : ℕ) (best : Option (ℕ × List ℕ)) → (limited limit best).letter ≡ None →
    (limited limit best).text ≡ []
limited-none limit None e = refl
limited-none limit (Some best) e = elim (cases_Bool (nat_le (length best.1) limit)) [
  | inl fits ↦ let some = rw fits at e in cc some
  | inr long ↦ rw long refl
]

best_map-none : (limit : ℕ) (bits : List Bool) → (best_map bits limit).letter ≡ None →
    (best_map bits limit).text ≡ []
unfolding best_map
best_map-none limit [] e = refl
best_map-none limit (bit ∷ bits) e = limited-none limit (shortest_text (bit ∷ bits)) e

-- the text of the best map reads as the bits or as no map
map_bits-best : (position limit : ℕ) (bits : List Bool) → position + length bits < 2 ^ 63
    → (map_bits (record { position = position; map = (best_map bits limit).text }) ≡ bits)
    ⊎ (map_bits (record { position = position; map = (best_map bits limit).text }) ≡ [])
unfolding map_bits map_reading
map_bits-best position limit bits room = elim (option_cases (best_map bits limit).letter) [
  | inl none ↦ inr (rw (best_map-none limit bits none) refl)
  | inr some ↦
      let has : IsSome (best_map bits limit).letter = rw some.1 refl in
      inl (rw (map_reading-best_map position limit bits room has) refl)
]

map_bits-nothing : (position limit : ℕ) → map_bits
    (record { position = position; map = (best_map [] limit).text }) ≡ []
unfolding map_bits map_reading best_map
map_bits-nothing position limit = refl

-- a bit of the map is a bit of what it was made of
bit_in_map : (position limit : ℕ) (bits : List Bool) (j : ℕ) →
    ((0 < length bits) → position + length bits < 2 ^ 63)
    → get_or (map_bits (record { position = position; map = (best_map bits limit).text })) j false
    ≡ true → get_or bits j false ≡ true
bit_in_map position limit [] j room bit = rw (map_bits-nothing position limit) at bit
bit_in_map position limit (x ∷ bits) j room bit = elim
    (map_bits-best position limit (x ∷ bits) (room (omega arith))) [
      | inl all ↦ rw all at bit
      | inr none ↦ let empty : get_or [] j false ≡ true = rw none at bit in true-not-false _ empty
          (get_or_past [] j false (omega arith))
    ]

bits_at-none : (b : ℕ) (marks : List Mark) → high_at marks ≡ None → bits_at b marks ≡ []
unfolding bits_at
bits_at-none b marks none = rw none refl

bits_at-some : (b g : ℕ) (marks : List Mark) → high_at marks ≡ Some g → bits_at b marks
    ≡ bits_between (position_at b marks) g (incomplete_offsets marks)
unfolding bits_at
bits_at-some b g marks some = rw some refl

-- ---- the commit of known records

module _ (k end n b limit : ℕ) (xs : List Record) (f : ℕ → Bool) (rises : Rises n xs) where
  known : List Record
  known = known_of k end xs

  -- a record below the position is complete
  below_position : (r : Record) → In r xs → b ≤ r.offset → r.offset < position_at b
      (marks_by f (known_of k end xs)) → f r.offset ≡ true
  unfolding position_at end_at
  below_position r i from below = elim (cases_Bool (f r.offset)) [
    | inl done ↦ done
    | inr not_done ↦ elim (option_cases
        (least_of (incomplete_offsets (marks_by f (known_of k end xs))))) [
          | inl none ↦ elim (option_cases
              (greatest_of (offsets_of (marks_by f (known_of k end xs))))) [
                | inl nothing ↦ let at : r.offset < b = rw (none, nothing) at below in absurd
                    (omega arith)
                | inr most ↦
                    let at : r.offset < most.0 + 1 = rw (none, most.1) at below in
                    let last = In-offsets_of f (known_of k end xs) most.0
                    (greatest_of-In most.0 _ most.1) in
                    let is : last.0.offset ≡ most.0 = last.2 in
                    let within = known_of-below k end n xs r last.0 rises i last.1 (omega arith) in
                    absurd (least_of-none r.offset _ none
                    (In-incomplete f (known_of k end xs) r within not_done))
              ]
          | inr least ↦
              let at : r.offset < least.0 = rw least.1 at below in
              let first = In-incomplete_offsets f (known_of k end xs) least.0
              (least_of-In least.0 _ least.1) in
              let is : first.0.offset ≡ least.0 = first.2 in
              let within = known_of-below k end n xs r first.0 rises i first.1 (omega arith) in
              let le : least.0 ≤ r.offset = least_of-least least.0 r.offset _ least.1
              (In-incomplete f (known_of k end xs) r within not_done) in
              absurd (omega arith)
        ]
  ]

  -- so is a record whose completion bit is 1
  module _ (r : Record) (i : In r xs) where
    pub bit_of : (q g j : ℕ) → high_at (marks_by f (known_of k end xs)) ≡ Some g → r.offset ≡ q + j
        → get_or (bits_between q g (incomplete_offsets (marks_by f (known_of k end xs)))) j false
        ≡ true → f r.offset ≡ true
    unfolding high_at
    bit_of q g j high at bit = elim (cases_lt j (g + 1 - q)) [
      | inr past ↦
          let empty = get_or_past (bits_between q g
          (incomplete_offsets (marks_by f (known_of k end xs)))) j false
          (rw (length-map-range_with_len
          (λ o. not (list_any (λ u. u == o)
          (incomplete_offsets (marks_by f (known_of k end xs))))) q (g + 1 - q)) past) in
          true-not-false _ bit empty
      | inl within ↦
          let is = get_or-map-range_with_len
          (λ o. not (list_any (λ u. u == o)
          (incomplete_offsets (marks_by f (known_of k end xs))))) q
          (g + 1 - q) j r.offset false within (sym at) in
          let absent : list_any (λ u. u == r.offset)
          (incomplete_offsets (marks_by f (known_of k end xs))) ≡ false = not-true _
          (sym is ∙ bit) in
          let last = In-complete_offsets f (known_of k end xs) g (greatest_of-In g _ high) in
          let last_is : last.0.offset ≡ g = last.2 in
          let known = known_of-below k end n xs r last.0 rises i last.1 (omega arith) in
          elim (cases_Bool (f r.offset)) [
            | inl done ↦ done
            | inr not_done ↦ true-not-false _
                (list_any-In (λ u. u == r.offset) r.offset _
                (In-incomplete f (known_of k end xs) r known not_done)
                (eq-eqb r.offset r.offset refl)) absent
          ]
    ]

    -- the bits up to the high leave room for their offsets
    room_of : (q g : ℕ) → high_at (marks_by f (known_of k end xs)) ≡ Some g → q ≤ g
        → q + length (bits_between q g (incomplete_offsets (marks_by f (known_of k end xs)))) < 2 ^
        63
    unfolding high_at
    room_of q g high le =
        let last = In-complete_offsets f (known_of k end xs) g (greatest_of-In g _ high) in
        let last_is : last.0.offset ≡ g = last.2 in
        let small : last.0.offset < 2 ^ 63 - 1 =
        (Rises-In n last.0 xs rises (known_of-In k end xs last.0 last.1)).1 in
        rw (length-map-range_with_len
        (λ o. not (list_any (λ u. u == o)
        (incomplete_offsets (marks_by f (known_of k end xs))))) q (g + 1 - q)) (omega arith)

    -- so is each record that the commit passes over
    pub passed_is_complete : b ≤ r.offset → passes
        (commit_at limit b (marks_by f (known_of k end xs))).commit r.offset ≡ true → f r.offset
        ≡ true
    unfolding passes commit_at
    passed_is_complete from passed = elim (or-cases _ _ passed) [
      | inl below ↦ below_position r i from (ltb-true r.offset _ below)
      | inr bit ↦ elim (cases_lt r.offset (position_at b (marks_by f (known_of k end xs)))) [
        | inl below ↦ below_position r i from below
        | inr above ↦ elim (option_cases (high_at (marks_by f (known_of k end xs)))) [
          | inl none ↦
              let empty = bits_at-none b (marks_by f (known_of k end xs)) none in
              let at = bit_in_map (position_at b (marks_by f (known_of k end xs))) limit
              (bits_at b (marks_by f (known_of k end xs)))
              (r.offset - position_at b (marks_by f (known_of k end xs)))
              (λ some. let no_length = rw empty at some in absurd (omega arith)) bit in
              let nothing : get_or [] (r.offset - position_at b (marks_by f (known_of k end xs)))
              false ≡ true = rw empty at at in
              true-not-false _ nothing (get_or_past []
              (r.offset - position_at b (marks_by f (known_of k end xs))) false (omega arith))
          | inr high ↦
              let is = bits_at-some b high.0 (marks_by f (known_of k end xs)) high.1 in
              let at = bit_in_map (position_at b (marks_by f (known_of k end xs))) limit
              (bits_at b (marks_by f (known_of k end xs)))
              (r.offset - position_at b (marks_by f (known_of k end xs)))
              (λ some. rw is (room_of (position_at b (marks_by f (known_of k end xs))) high.0 high.1
              (let long = rw (
                is,
                length-map-range_with_len
                    (λ o. not (list_any (λ u. u == o)
                    (incomplete_offsets (marks_by f (known_of k end xs)))))
                    (position_at b (marks_by f (known_of k end xs)))
                    (high.0 + 1 - position_at b (marks_by f (known_of k end xs))),
              ) at some
              in omega arith))) bit in
              let bit_at = rw is at at in
              let q = position_at b (marks_by f (known_of k end xs)) in
              bit_of q high.0 (r.offset - q) high.1 (omega arith) bit_at
        ]
      ]
    ]
