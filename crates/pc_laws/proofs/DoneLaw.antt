-- After Done every commit that may be stored for a held part passes over every record of its log.
use Rattle.std.proofs.Common.{◌≡◌, ℕ, zero, suc, ◌+◌, ◌≤◌, ◌<◌, true, ◌==◌, List, [], ◌∷◌, take, length, ap, subst, arith, inl, inr}
use Rattle.std.specs.Prelude.{nat_le, unwrap_or}
use Rattle.std.specs.List.{range_with_len}
use Rattle.std.specs.Option.{option_flatten}
use Rattle.std.proofs.lemmas.Bool.{cases_lt, eqb-true, le-leb, lt-ltb}
use Rattle.std.proofs.lemmas.Option.{slice_get_past}
use Rattle.pc_model.specs.declared.event.Event.{Event}
use Rattle.pc_model.specs.declared.event.Event.TheVariants.{Done}
use Rattle.pc_model.specs.declared.commit.Commit.{Commit}
use Rattle.pc_model.specs.Record.{Record}
use Rattle.pc_model.specs.Given.{Given, records_of, parts_of}
use Rattle.pc_model.specs.Epochs.{is_held}
use Rattle.pc_model.specs.Stored.{may_store, passes}
use Rattle.pc_model.specs.Known.{begin_of, polled_count, records_from_begin, polled_records, unpolled_records, known_records, is_complete, marks_of, position_of}
use Rattle.pc_model.specs.Lawful.{IsLegal, is_nil, is_stored, is_finished, held_parts}
use Rattle.pc_laws.specs.Lists.{In}
use Rattle.pc_laws.proofs.Lists.{and-left, and-right, or-left, In-filter, In-append_left, list_all-In}
use Rattle.pc_laws.proofs.Passing.{In-incomplete}
use Rattle.pc_laws.proofs.Position.{take-drop-In}
use Rattle.pc_laws.proofs.PositionLaw.{known_by, is_position_of, position_of-begin_le}

pub In-range : (a n i x : ℕ) → a + i ≡ x → i < n → In x (range_with_len a n)
In-range a zero i x is lt = absurd (omega arith)
In-range a (suc n) zero x is lt = let same : x ≡ a = omega arith in inl same
In-range a (suc n) (suc i) x is lt = let next : (a + 1) + i ≡ x = omega arith in inr
    (In-range (a + 1) n i x next (omega arith))

pub no-log : (given : Given) (p : ℕ) → length given.logs ≤ p → records_of given p ≡ []
no-log given p past = ap (λ o. unwrap_or (option_flatten o) []) (slice_get_past given.logs p past)

is_nil-true : {X : Type 0} (xs : List X) (x : X) → is_nil xs ≡ true → In x xs → ⊥
is_nil-true [] x e i = i
is_nil-true (y ∷ ys) x e i = cc

module _ (given : Given) (h : List Event) (p : ℕ) (finished : is_finished given h p ≡ true) where
  -- every record of a finished part lies below its position
  finished-below : (r : Record) → In r (records_of given p) → r.offset < position_of given h p
  unfolding is_finished unpolled_records marks_of known_records polled_records
  finished-below r i = elim (cases_lt r.offset (begin_of h p)) [
    | inl below ↦ let le : begin_of h p ≤ position_of given h p = position_of-begin_le given h p
        in omega arith
    | inr from ↦
        let front = and-left _ _ finished in
        let i_from = In-filter (λ q. nat_le (begin_of h p) q.offset) r (records_of given p) i
        (le-leb (begin_of h p) r.offset from) in
        let known : In r (known_by given h p) = elim
        (take-drop-In (polled_count h p) r (records_from_begin given h p) i_from) [
          | inl polled ↦ In-append_left r
              (take (polled_count h p) (records_from_begin given h p)) _ polled
          | inr unpolled ↦ absurd (is_nil-true _ r (and-left _ _ front) unpolled)
        ] in
        let position = is_position_of given h p in
        elim position.which [
          | inl waits ↦ absurd (is_nil-true _ waits.0.offset
              (and-right (is_nil (unpolled_records given h p)) _ front)
              (In-incomplete (is_complete h p) (known_by given h p) waits.0 waits.1 waits.2))
          | inr rest ↦ elim rest [
            | inl past ↦ past.1 r known
            | inr none ↦ absurd (none.1 r known)
          ]
        ]
  ]

  -- so each commit that may be stored passes over it
  finished-passed : (c : Commit) → In c (may_store given h p) →
      (r : Record) → In r (records_of given p) → passes c r.offset ≡ true
  unfolding is_finished is_stored passes
  finished-passed c i r j =
      let stored = list_all-In (λ d. d.position == position_of given h p) c (may_store given h p)
      (and-right _ _ finished) i in
      let is : c.position ≡ position_of given h p = eqb-true c.position
      (position_of given h p) stored in
      let below : r.offset < position_of given h p = finished-below r j in
      or-left _ _ (lt-ltb r.offset c.position (omega arith))

pub done_is_stored : (given : Given) (h : List Event) → IsLegal given (Done ∷ h) →
    (p : ℕ) → is_held (Done ∷ h) p ≡ true
    → (c : Commit) → In c (may_store given (Done ∷ h) p) →
    (r : Record) → In r (records_of given p) → passes c r.offset ≡ true
done_is_stored given h legal p held c i r j = elim (cases_lt p (length given.logs)) [
  | inr past ↦ let nothing : In r [] = subst (λ (rs : List Record). In r rs) (no-log given p past) j
      in absurd nothing
  | inl within ↦
      let part = In-filter (is_held h) p (parts_of given)
      (In-range 0 (length given.logs) p p (omega arith) within) held in
      finished-passed given h p
      (list_all-In (is_finished given h) p (held_parts given h) legal.0 part) c i r j
]
