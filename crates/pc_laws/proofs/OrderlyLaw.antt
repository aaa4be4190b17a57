-- Every legal history is orderly: one ordering key runs singly, in offset order.
use Rattle.std.proofs.Common.{◌≡◌, ℕ, ◌<◌, Bool, true, false, not, ◌&&◌, ◌||◌, ◌==◌, List, [], ◌∷◌, map, Option, Some, None, refl, ap, sym, subst, ◌∙◌, arith, inl, inr}
use Rattle.std.specs.Prelude.{filter, nat_le, unwrap_or, if◌then◌else◌}
use Rattle.std.proofs.lemmas.Bool.{cases_Bool, eqb-true, ltb-true}
use Rattle.pc_model.specs.declared.event.Event.{Event}
use Rattle.pc_model.specs.declared.event.Event.TheVariants.{Dispatch}
use Rattle.pc_model.specs.Record.{Record}
use Rattle.pc_model.specs.Numbers.{least_of, first_some}
use Rattle.pc_model.specs.Given.{Given, records_of, record_at}
use Rattle.pc_model.specs.Epochs.{epoch_of, is_held}
use Rattle.pc_model.specs.Stored.{passes}
use Rattle.pc_model.specs.Known.{assigned_commit, begin_of, polled_count, records_from_begin, polled_records, has_succeeded, is_complete}
use Rattle.pc_model.specs.Next.{ordering_key, is_busy, is_before, is_first, is_eligible_record, eligible_offsets, next_of_part, next_record}
use Rattle.pc_model.specs.Lawful.{IsLegal, DispatchIsLawful}
use Rattle.pc_model.specs.Sound.{DispatchIsOrderly, RecordIsOrderly, IsOrderly}
use Rattle.pc_laws.specs.Lists.{In}
use Rattle.pc_laws.proofs.Lists.{and-left, and-right, or-cases, or-left, or-right, not-true, In-filter, In-filtered, In-find, In-mapped, list_all-In, list_all-each, least_of-In}
use Rattle.pc_laws.proofs.Rising.{Rises, Rises-filter, Rises-same, legal-rises, take-below, take-In}
use Rattle.pc_laws.proofs.Passing.{option_cases}

-- what is found first is found at one of the items
first_some-In : {X Y : Type 0} (f : X → Option Y) (y : Y) (xs : List X) → first_some f xs
    ≡ Some y → (x : X) × In x xs × (f x ≡ Some y)
first_some-In f y [] e = cc
first_some-In f y (x ∷ xs) e = elim (option_cases (f x)) [
  | inl none ↦ let rest = rw none at e in let at = first_some-In f y xs rest in
      (at.0, inr at.1, at.2)
  | inr some ↦ let is : Some some.0 ≡ Some y = rw some.1 at e in (x, inl refl, some.1 ∙ is)
]

-- the next record of a part is an eligible record of that part
next_of_part-is : (given : Given) (h : List Event) (q p o : ℕ) → next_of_part given h q ≡ Some
    (p, o)
    → (q ≡ p) × (least_of (eligible_offsets given h p) ≡ Some o)
next_of_part-is given h q p o e = elim (option_cases (least_of (eligible_offsets given h q))) [
  | inl none ↦ let nothing = rw none at e in cc nothing
  | inr some ↦
      let is : Some (q, some.0) ≡ Some (p, o) = rw some.1 at e in
      let part : q ≡ p = ap (λ (x : Option (ℕ × ℕ)). (unwrap_or x (p, o)).0) is in
      let offset : some.0 ≡ o = ap (λ (x : Option (ℕ × ℕ)). (unwrap_or x (p, o)).1) is in (
        part,
        subst (λ (u : ℕ). least_of (eligible_offsets given h u) ≡ Some o) part
            (some.1 ∙ ap (λ (x : ℕ). Some x) offset),
      )
]

-- an eligible offset is that of a polled record of a held part that may be dispatched
eligible_offsets-In : (given : Given) (h : List Event) (p o : ℕ) → In o
    (eligible_offsets given h p)
    → (is_held h p ≡ true) × ((r : Record) × In r (polled_records given h p) × (r.offset ≡ o) ×
    (is_eligible_record given h p r ≡ true))
unfolding eligible_offsets
eligible_offsets-In given h p o i = elim (cases_Bool (is_held h p)) [
  | inl held ↦
      let at = In-mapped (λ (r : Record). r.offset) o
      (filter (is_eligible_record given h p) (polled_records given h p))
      (subst (λ (b : Bool). In o
      (if b then map (λ r. r.offset)
      (filter (is_eligible_record given h p) (polled_records given h p)) else [])) held i) in
      let passed = In-filtered (is_eligible_record given h p) at.0
      (polled_records given h p) at.1 in
      (held, (at.0, passed.0, at.2, passed.1))
  | inr free ↦ absurd (subst
      (λ (b : Bool). In o (if b then map (λ r. r.offset)
      (filter (is_eligible_record given h p) (polled_records given h p)) else [])) free i)
]

-- the next record: a polled record of a held part that may be dispatched
pub next_record-In : (given : Given) (h : List Event) (p o : ℕ) → next_record given h ≡ Some (p, o)
    → (is_held h p ≡ true) × ((r : Record) × In r (polled_records given h p) × (r.offset ≡ o) ×
    (is_eligible_record given h p r ≡ true))
unfolding next_record
next_record-In given h p o e =
    let at = first_some-In (next_of_part given h) (p, o) _ e in
    let is = next_of_part-is given h at.0 p o at.2 in
    eligible_offsets-In given h p o (least_of-In o (eligible_offsets given h p) is.1)

-- ---- what an eligible record meets

module _ (given : Given) (h : List Event) (p : ℕ) (r : Record)
    (eligible : is_eligible_record given h p r ≡ true) where
  pub eligible-free : is_busy given h (ordering_key given.setup.settings.order p r) ≡ false
  unfolding is_eligible_record
  eligible-free = not-true _
      (and-right _ _ (and-left _ _ (and-left _ _ (and-left _ _ (and-left _ _ eligible)))))

  pub eligible-first : is_first given h p r ≡ true
  unfolding is_eligible_record
  eligible-first = and-right _ _ (and-left _ _ (and-left _ _ (and-left _ _ eligible)))

pub polled-record : (given : Given) (h : List Event) (p : ℕ) (r : Record) → In r
    (polled_records given h p)
    → In r (records_of given p) × (nat_le (begin_of h p) r.offset ≡ true)
unfolding polled_records
polled-record given h p r i = In-filtered (λ q. nat_le (begin_of h p) q.offset) r
    (records_of given p) (take-In (polled_count h p) r (records_from_begin given h p) i)

-- an earlier record of the key of an eligible one is done
earlier-done : (given : Given) (h : List Event) (p : ℕ) (r q : Record) → Rises 0
    (records_of given p) → In r (polled_records given h p)
    → is_first given h p r ≡ true → In q (records_of given p)
    → (not (nat_le (begin_of h p) q.offset && is_before given p q r) || passes
    (assigned_commit h p) q.offset || has_succeeded h p (epoch_of h p) q.offset) ≡ true
unfolding is_first is_complete polled_records
earlier-done given h p r q rises polled first i = elim
    (cases_Bool (nat_le (begin_of h p) q.offset && is_before given p q r)) [
      | inr other ↦ rw other refl
      | inl earlier ↦
          let before : is_before given p q r ≡ true = and-right _ _ earlier in
          let below : q.offset < r.offset = ltb-true q.offset r.offset (and-left _ _ before) in
          let from = In-filter (λ x. nat_le (begin_of h p) x.offset) q (records_of given p) i
          (and-left _ _ earlier) in
          let q_polled = take-below (polled_count h p) 0 (records_from_begin given h p) q r
          (Rises-filter (λ x. nat_le (begin_of h p) x.offset) 0 (records_of given p) rises) from
          polled
          (omega arith) in
          let test = list_all-In (λ x. not (is_before given p x r) || is_complete h p x.offset) q
          (polled_records given h p) first q_polled in
          let complete : is_complete h p q.offset ≡ true = rw before at test in
          elim (or-cases (has_succeeded h p (epoch_of h p) q.offset)
          (passes (assigned_commit h p) q.offset) complete) [
            | inl succeeded ↦ or-right
                (not (nat_le (begin_of h p) q.offset && is_before given p q r) || passes
                (assigned_commit h p) q.offset)
                (has_succeeded h p (epoch_of h p) q.offset) succeeded
            | inr passed ↦ or-left (not (nat_le (begin_of h p) q.offset && is_before given p q r)
                || passes (assigned_commit h p) q.offset)
                (has_succeeded h p (epoch_of h p) q.offset)
                (or-right (not (nat_le (begin_of h p) q.offset && is_before given p q r)) _ passed)
          ]
    ]

-- a lawful dispatch is in order
dispatch-orderly : (given : Given) (h : List Event) → IsLegal given h →
    (t w p o e a : ℕ) → DispatchIsLawful given h t w p o e a
    → (r : Record) → record_at given p o ≡ Some r → DispatchIsOrderly given h p e r
unfolding is_busy
dispatch-orderly given h legal t w p o e a lawful r found =
    let next = next_record-In given h p o lawful.record_is in
    let s = next.1.0 in
    let s_log = polled-record given h p s next.1.1 in
    let r_log = In-find (λ q. q.offset == o) r (records_of given p) found in
    let rises = legal-rises given h legal p in
    let offset : r.offset ≡ s.offset = eqb-true r.offset o r_log.1 ∙ sym next.1.2 in
    let same : r ≡ s = Rises-same 0 r s (records_of given p) rises r_log.0 s_log.0 offset in
    let eligible : is_eligible_record given h p r ≡ true = subst
    (λ (x : Record). is_eligible_record given h p x ≡ true) (sym same) next.1.3 in
    let polled : In r (polled_records given h p) = subst
    (λ (x : Record). In x (polled_records given h p)) (sym same) next.1.1 in
    record {
      alone = eligible-free given h p r eligible;
      in_order = list_all-each _ (records_of given p)
          (λ q i. rw lawful.epoch_is
          (earlier-done given h p r q rises polled (eligible-first given h p r eligible) i));
    }

record-orderly : (given : Given) (h : List Event) → IsLegal given h →
    (t w p o e a : ℕ) → DispatchIsLawful given h t w p o e a
    → (r : Option Record) → record_at given p o ≡ r → RecordIsOrderly given h p e r
record-orderly given h legal t w p o e a lawful None found = tt
record-orderly given h legal t w p o e a lawful (Some r) found =
    dispatch-orderly given h legal t w p o e a lawful r found

pub is_orderly : (given : Given) (h : List Event) → IsLegal given h → IsOrderly given h
is_orderly given [] legal = tt
is_orderly given (Dispatch t w p o e a ∷ h) legal = (
  record-orderly given h legal.2 t w p o e a legal.0
      (record_at given p o) refl,
  is_orderly given h legal.2,
)
is_orderly given (v ∷ h) legal = (tt, is_orderly given h legal.2)
