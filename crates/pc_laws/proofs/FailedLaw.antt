-- What failed in an epoch of a part: nothing in an epoch that is still to come, and in the present
-- one only records that were polled.
use Rattle.std.proofs.Common.{◌≡◌, ℕ, ◌+◌, ◌<◌, true, false, ◌==◌, List, [], ◌∷◌, take, refl, ap, sym, subst, ◌∙◌, arith, inl, inr}
use Rattle.std.proofs.lemmas.Bool.{cases_Bool, eqb-true}
use Rattle.pc_model.specs.declared.event.Event.{Event}
use Rattle.pc_model.specs.declared.event.Event.TheVariants.{Assign, Poll, Failure, Revoke, Lost, Crash}
use Rattle.pc_model.specs.Record.{Record}
use Rattle.pc_model.specs.Given.{Given}
use Rattle.pc_model.specs.Jobs.{job_of}
use Rattle.pc_model.specs.Epochs.{moves, epoch_of, is_held}
use Rattle.pc_model.specs.Known.{polled_count, records_from_begin, polled_records, unpolled_records, is_job_at}
use Rattle.pc_model.specs.Retry.{failures_in, ready_in, failures_of, ready_of}
use Rattle.pc_model.specs.Lawful.{IsLegal}
use Rattle.pc_model.specs.OneMore.{touches}
use Rattle.pc_model.proofs.ListLemmas.{same_number}
use Rattle.pc_model.proofs.SamePart.{other_part}
use Rattle.pc_model.proofs.KnownLaws.{polled_records-same, polled_records-poll}
use Rattle.pc_laws.specs.Lists.{In}
use Rattle.pc_laws.specs.Failed.{IsUnfailed}
use Rattle.pc_laws.proofs.Lists.{In-append_left}
use Rattle.pc_laws.proofs.PositionLaw.{from_begin-rises, held_apart}
use Rattle.pc_laws.proofs.Blocked.{drop-above}
use Rattle.pc_laws.proofs.SucceededLaw.{epoch-before, early-job, WasPolled, success-polled}

-- ---- an epoch that is still to come

pub unfailed-later : (given : Given) (h : List Event) → IsLegal given h →
    (p e o : ℕ) → epoch_of h p < e → IsUnfailed h p e o
unfailed-later given [] legal p e o later = record { failures = refl; ready = refl }
unfailed-later given (Failure t code ready ∷ h) legal p e o later =
    let before = unfailed-later given h legal.2 p e o later in
    let apart = early-job given h t p e o legal.2 later in
    record { failures = rw apart before.failures; ready = rw apart before.ready }
unfailed-later given (v ∷ h) legal p e o later =
    let before = unfailed-later given h legal.2 p e o
    (let grows = epoch-before v h p in omega (arith, grows)) in
    record { failures = before.failures; ready = before.ready }

unfailed-next : (given : Given) (h : List Event) → IsLegal given h → (p o : ℕ) →
    IsUnfailed h p (epoch_of h p + 1) o
unfailed-next given h legal p o = unfailed-later given h legal p (epoch_of h p + 1) o (omega arith)

-- right after an event that begins or ends an epoch of the part nothing of it has failed
pub unfailed-moved : (given : Given) (v : Event) (h : List Event) → IsLegal given h →
    (p o : ℕ) → moves v p ≡ true → IsUnfailed (v ∷ h) p (epoch_of (v ∷ h) p) o
unfailed-moved given (Assign q epoch position text) h legal p o moved =
    let next = unfailed-next given h legal p o in
    record { failures = rw moved next.failures; ready = rw moved next.ready }
unfailed-moved given (Revoke q epoch) h legal p o moved =
    let next = unfailed-next given h legal p o in
    record { failures = rw moved next.failures; ready = rw moved next.ready }
unfailed-moved given (Lost q epoch) h legal p o moved =
    let next = unfailed-next given h legal p o in
    record { failures = rw moved next.failures; ready = rw moved next.ready }
unfailed-moved given Crash h legal p o moved =
    let next = unfailed-next given h legal p o in
    record { failures = next.failures; ready = next.ready }
unfailed-moved given v h legal p o moved = cc

-- so after an assignment
module _ (given : Given) (h : List Event) (legal : IsLegal given h) (p epoch position : ℕ)
    (text : List ℕ) (o : ℕ) where
  pub failures_of-assign : failures_of (Assign p epoch position text ∷ h) p o ≡ 0
  failures_of-assign = (unfailed-moved given (Assign p epoch position text) h legal p o
      (same_number p)).failures

  pub ready_of-assign : ready_of (Assign p epoch position text ∷ h) p o ≡ 0
  ready_of-assign = (unfailed-moved given (Assign p epoch position text) h legal p o
      (same_number p)).ready

-- ---- the present epoch

-- a poll takes no record from those that were polled
polled-poll : (given : Given) (h : List Event) (q count last p : ℕ) (r : Record) →
    In r (polled_records given h p) → In r (polled_records given (Poll q count last ∷ h) p)
polled-poll given h q count last p r i = elim (cases_Bool (q == p)) [
  | inl same ↦ subst (λ (u : ℕ). In r (polled_records given (Poll u count last ∷ h) p))
      (sym (eqb-true q p same))
      (rw (polled_records-poll given h p count last)
      (In-append_left r (polled_records given h p) (take count (unpolled_records given h p)) i))
  | inr apart ↦ rw (polled_records-same given p h (Poll q count last ∷ h)
      (other_part given p (Poll q count last) h apart)) i
]

-- an event that does not touch the part
other-unfailed : (given : Given) (v : Event) (h : List Event) (p o : ℕ) → touches v h p ≡ false
    → ((WasPolled given h p o → ⊥) → IsUnfailed h p (epoch_of h p) o)
    → (WasPolled given (v ∷ h) p o → ⊥) → IsUnfailed (v ∷ h) p (epoch_of (v ∷ h) p) o
other-unfailed given v h p o apart before none =
    let same = other_part given p v h apart in
    let at = before (λ polled. none
    (polled.0, rw (polled_records-same given p h (v ∷ h) same) polled.1, polled.2)) in
    record {
      failures = ap (λ (e : ℕ). failures_in (v ∷ h) p e o) same.epoch
          ∙ same.failures (epoch_of h p) o ∙ at.failures;
      ready = ap (λ (e : ℕ). ready_in (v ∷ h) p e o) same.epoch
          ∙ same.ready (epoch_of h p) o ∙ at.ready;
    }

-- an offset of a held part at which no record was polled has not failed
pub unfailed-held : (given : Given) (h : List Event) → IsLegal given h → (p o : ℕ) →
    is_held h p ≡ true → (WasPolled given h p o → ⊥) → IsUnfailed h p (epoch_of h p) o
unfolding polled_records
unfailed-held given [] legal p o held none = cc
unfailed-held given (Assign q epoch position text ∷ h) legal p o held none = elim
    (cases_Bool (q == p)) [
      | inl same ↦ unfailed-moved given (Assign q epoch position text) h legal.2 p o same
      | inr apart ↦ other-unfailed given (Assign q epoch position text) h p o apart
          (unfailed-held given h legal.2 p o (rw apart at held)) none
    ]
unfailed-held given (Poll q count last ∷ h) legal p o held none =
    let before = unfailed-held given h legal.2 p o held (λ polled. none
    (polled.0, polled-poll given h q count last p polled.0 polled.1, polled.2)) in
    record { failures = before.failures; ready = before.ready }
unfailed-held given (Failure t code ready ∷ h) legal p o held none = elim
    (cases_Bool (is_job_at (job_of h t) p (epoch_of h p) o)) [
      | inl now ↦ absurd (none (success-polled given h t p o legal.2 legal.0.outstanding
          legal.0.current now))
      | inr other ↦
          let before = unfailed-held given h legal.2 p o held none in
          record { failures = rw other before.failures; ready = rw other before.ready }
    ]
unfailed-held given (Revoke q epoch ∷ h) legal p o held none =
    let at = held_apart (q == p) (is_held h p) held in
    other-unfailed given (Revoke q epoch) h p o at.0 (unfailed-held given h legal.2 p o at.1) none
unfailed-held given (Lost q epoch ∷ h) legal p o held none =
    let at = held_apart (q == p) (is_held h p) held in
    other-unfailed given (Lost q epoch) h p o at.0 (unfailed-held given h legal.2 p o at.1) none
unfailed-held given (Crash ∷ h) legal p o held none = cc
unfailed-held given (v ∷ h) legal p o held none =
    let before = unfailed-held given h legal.2 p o held none in
    record { failures = before.failures; ready = before.ready }

-- so no record that is still to be polled has failed
pub unpolled-unfailed : (given : Given) (h : List Event) → IsLegal given h → (p : ℕ) →
    is_held h p ≡ true → (r : Record) → In r (unpolled_records given h p) →
    IsUnfailed h p (epoch_of h p) r.offset
unfolding polled_records unpolled_records
unpolled-unfailed given h legal p held r i = unfailed-held given h legal p r.offset held (λ polled.
    let is : polled.0.offset ≡ r.offset = polled.2 in
    let below : polled.0.offset < r.offset = drop-above (polled_count h p) 0
    (records_from_begin given h p) (from_begin-rises given h legal p) polled.0 r polled.1 i in
    omega arith)

module _ (given : Given) (h : List Event) (legal : IsLegal given h) (p : ℕ)
    (held : is_held h p ≡ true) (r : Record) (i : In r (unpolled_records given h p)) where
  pub failures_of-unpolled : failures_of h p r.offset ≡ 0
  failures_of-unpolled = (unpolled-unfailed given h legal p held r i).failures

  pub ready_of-unpolled : ready_of h p r.offset ≡ 0
  ready_of-unpolled = (unpolled-unfailed given h legal p held r i).ready
