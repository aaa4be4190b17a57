-- The position of known records: not below the begin, and not above where more is known or
-- complete.
use Rattle.std.proofs.Common.{◌≡◌, ◌⊎◌, ℕ, zero, suc, ◌+◌, ◌≤◌, ◌<◌, Bool, true, false, List, [], ◌∷◌, take, drop, Some, None, refl, ap, sym, ◌∙◌, arith, inl, inr, zero-add}
use Rattle.std.proofs.Math.Nat.{suc-add}
use Rattle.std.specs.Prelude.{nat_lt}
use Rattle.std.proofs.lemmas.Bool.{cases_Bool, cases_lt}
use Rattle.pc_model.specs.Record.{Record}
use Rattle.pc_model.specs.Numbers.{least_of, greatest_of}
use Rattle.pc_model.specs.Marks.{Mark, offsets_of, incomplete_offsets, end_at, position_at}
use Rattle.pc_laws.specs.Lists.{In}
use Rattle.pc_laws.proofs.Lists.{In-append_left, In-append_right, In-filter, In-filtered, true-not-false, least_of-In, least_of-least, least_of-none, greatest_of-In, greatest_of-greatest, greatest_of-none}
use Rattle.pc_laws.proofs.Rising.{Rises, known_of, known_of-below}
use Rattle.pc_laws.proofs.Passing.{option_cases, marks_by, In-incomplete, In-incomplete_offsets, In-offsets, In-offsets_of}

-- ---- which position it is

module _ (b : ℕ) (marks : List Mark) where
  position_at-some : (m : ℕ) → least_of (incomplete_offsets marks) ≡ Some m →
      position_at b marks ≡ m
  unfolding position_at
  position_at-some m some = rw some refl

  position_at-end : (g : ℕ) → least_of (incomplete_offsets marks) ≡ None → greatest_of
      (offsets_of marks) ≡ Some g → position_at b marks ≡ g + 1
  unfolding position_at end_at
  position_at-end g none most = rw (none, most) refl

  position_at-begin : least_of (incomplete_offsets marks) ≡ None → greatest_of
      (offsets_of marks) ≡ None → position_at b marks ≡ b
  unfolding position_at end_at
  position_at-begin none nothing = rw (none, nothing) refl

-- a position is an incomplete offset, or above all offsets, or the begin where there are none
pub record IsPosition (b q : ℕ) (f : ℕ → Bool) (rs : List Record) : Type 0 where
  pub least : (r : Record) → In r rs → f r.offset ≡ false → q ≤ r.offset
  pub which : ((r : Record) × In r rs × (f r.offset ≡ false) × (q ≡ r.offset))
      ⊎ (((r : Record) × In r rs × (q ≡ r.offset + 1)) × ((r : Record) → In r rs → r.offset < q))
      ⊎ ((q ≡ b) × ((r : Record) → In r rs → ⊥))

pub is_position : (b : ℕ) (f : ℕ → Bool) (rs : List Record) → IsPosition b
    (position_at b (marks_by f rs)) f rs
is_position b f rs = elim (option_cases (least_of (incomplete_offsets (marks_by f rs)))) [
  | inr some ↦
      let is = position_at-some b (marks_by f rs) some.0 some.1 in
      let at = In-incomplete_offsets f rs some.0 (least_of-In some.0 _ some.1) in
      record {
        least = λ r i waits. rw is
            (least_of-least some.0 r.offset _ some.1 (In-incomplete f rs r i waits));
        which = inl (at.0, at.1, ap f at.2 ∙ at.3, is ∙ sym at.2);
      }
  | inl none ↦ elim (option_cases (greatest_of (offsets_of (marks_by f rs)))) [
    | inr most ↦
        let is = position_at-end b (marks_by f rs) most.0 none most.1 in
        let at = In-offsets_of f rs most.0 (greatest_of-In most.0 _ most.1) in
        record {
          least = λ r i waits. absurd
              (least_of-none r.offset _ none (In-incomplete f rs r i waits));
          which = inr (inl (
            (at.0, at.1, is ∙ ap (λ x. x + 1) (sym at.2)),
            λ r i. let le : r.offset ≤ most.0 = greatest_of-greatest most.0 r.offset _ most.1
                (In-offsets f rs r i) in rw is (omega arith),
          ));
        }
    | inl nothing ↦
        record {
          least = λ r i waits. absurd
              (least_of-none r.offset _ none (In-incomplete f rs r i waits));
          which = inr (inr (
            position_at-begin b (marks_by f rs) none nothing,
            λ r i. greatest_of-none r.offset _ nothing (In-offsets f rs r i),
          ));
        }
  ]
]

-- a position is not below the begin
pub begin-le : (b q : ℕ) (f : ℕ → Bool) (rs : List Record) → IsPosition b q f rs →
    ((r : Record) → In r rs → b ≤ r.offset) → b ≤ q
begin-le b q f rs position from = elim position.which [
  | inl open_at ↦ let is : q ≡ open_at.0.offset = open_at.3 in let le : b ≤ open_at.0.offset =
      from open_at.0 open_at.1 in omega arith
  | inr other ↦ elim other [
    | inl past ↦ let is : q ≡ past.0.0.offset + 1 = past.0.2 in let le : b ≤ past.0.0.offset =
        from past.0.0 past.0.1 in omega arith
    | inr none ↦ let is : q ≡ b = none.0 in omega arith
  ]
]

-- where more is known, above what was, and more is complete, the position is not lower
pub position-le : (b q q' : ℕ) (f f' : ℕ → Bool) (rs rs' : List Record) → IsPosition b q f rs →
    IsPosition b q' f' rs'
    → ((r : Record) → In r rs → In r rs') →
    ((r : Record) → In r rs → f r.offset ≡ true → f' r.offset ≡ true)
    → ((r : Record) → In r rs' → In r rs ⊎ ((s : Record) → In s rs → s.offset < r.offset))
    → ((r : Record) → In r rs' → b ≤ r.offset) → q ≤ q'
position-le b q q' f f' rs rs' old new more done above from = elim new.which [
  | inl open_at ↦ let is : q' ≡ open_at.0.offset = open_at.3 in elim (above open_at.0 open_at.1) [
    | inl known ↦ elim (cases_Bool (f open_at.0.offset)) [
      | inl complete ↦ true-not-false _ (done open_at.0 known complete) open_at.2
      | inr waits ↦ let le : q ≤ open_at.0.offset = old.least open_at.0 known waits in omega arith
    ]
    | inr beyond ↦ elim old.which [
      | inl o ↦ let o_is : q ≡ o.0.offset = o.3 in let lt : o.0.offset < open_at.0.offset =
          beyond o.0 o.1 in omega arith
      | inr rest ↦ elim rest [
        | inl past ↦ let p_is : q ≡ past.0.0.offset + 1 = past.0.2 in let lt
            : past.0.0.offset < open_at.0.offset = beyond past.0.0 past.0.1 in omega arith
        | inr none ↦ let n_is : q ≡ b = none.0 in let le : b ≤ open_at.0.offset =
            from open_at.0 open_at.1 in omega arith
      ]
    ]
  ]
  | inr rest' ↦ elim rest' [
    | inl past' ↦ let is : q' ≡ past'.0.0.offset + 1 = past'.0.2 in elim old.which [
      | inl o ↦ let o_is : q ≡ o.0.offset = o.3 in let lt : o.0.offset < q' = past'.1 o.0
          (more o.0 o.1) in omega arith
      | inr rest ↦ elim rest [
        | inl past ↦ let p_is : q ≡ past.0.0.offset + 1 = past.0.2 in let lt : past.0.0.offset < q'
            = past'.1 past.0.0 (more past.0.0 past.0.1) in omega arith
        | inr none ↦ let n_is : q ≡ b = none.0 in let le : b ≤ past'.0.0.offset =
            from past'.0.0 past'.0.1 in omega arith
      ]
    ]
    | inr none' ↦ let is : q' ≡ b = none'.0 in elim old.which [
      | inl o ↦ absurd (none'.1 o.0 (more o.0 o.1))
      | inr rest ↦ elim rest [
        | inl past ↦ absurd (none'.1 past.0.0 (more past.0.0 past.0.1))
        | inr none ↦ let n_is : q ≡ b = none.0 in omega arith
      ]
    ]
  ]
]

-- ---- more records polled

pub take-drop-In : {X : Type 0} (k : ℕ) (x : X) (xs : List X) → In x xs → In x (take k xs) ⊎ In x
    (drop k xs)
take-drop-In zero x xs i = inr i
take-drop-In (suc k) x [] i = absurd i
take-drop-In (suc k) x (y ∷ ys) (inl same) = inl (inl same)
take-drop-In (suc k) x (y ∷ ys) (inr i) = elim (take-drop-In k x ys i)
    [ inl a ↦ inl (inr a) | inr d ↦ inr d ]

-- what is known stays known
pub known_of-more : (k c end : ℕ) (xs : List Record) (r : Record) → In r (known_of k end xs) → In r
    (known_of (k + c) end xs)
known_of-more zero c end xs r i =
    let at = In-filtered (λ q. nat_lt q.offset end) r xs i in
    rw zero-add (elim (take-drop-In c r xs at.0) [
      | inl a ↦ In-append_left r (take c xs) _ a
      | inr d ↦ In-append_right r (take c xs) _
          (In-filter (λ q. nat_lt q.offset end) r (drop c xs) d at.1)
    ])
known_of-more (suc k) c end [] r i = absurd i
known_of-more (suc k) c end (x ∷ xs) r (inl same) = rw suc-add (inl same)
known_of-more (suc k) c end (x ∷ xs) r (inr i) = rw suc-add (inr (known_of-more k c end xs r i))

-- and what is new stands above all that was known
pub known_of-above : (k end n : ℕ) (xs : List Record) (f : ℕ → Bool) (r : Record) → Rises n xs →
    In r xs
    → In r (known_of k end xs) ⊎ ((s : Record) → In s (known_of k end xs) → s.offset < r.offset)
known_of-above k end n xs f r rises i = elim
    (option_cases (greatest_of (offsets_of (marks_by f (known_of k end xs))))) [
      | inl none ↦ inr (λ s j. absurd
          (greatest_of-none s.offset _ none (In-offsets f (known_of k end xs) s j)))
      | inr most ↦ elim (cases_lt most.0 r.offset) [
        | inl above ↦ inr (λ s j. let le : s.offset ≤ most.0 =
            greatest_of-greatest most.0 s.offset _ most.1 (In-offsets f (known_of k end xs) s j)
            in omega arith)
        | inr within ↦
            let at = In-offsets_of f (known_of k end xs) most.0 (greatest_of-In most.0 _ most.1) in
            let is : at.0.offset ≡ most.0 = at.2 in
            inl (known_of-below k end n xs r at.0 rises i at.1 (omega arith))
      ]
    ]
