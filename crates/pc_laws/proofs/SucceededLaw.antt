-- What succeeded in an epoch of a part: none in an epoch that is still to come, and in the present
-- one only records that were polled.
use Rattle.std.proofs.Common.{◌≡◌, ◌⊎◌, ℕ, ◌+◌, ◌≤◌, ◌<◌, Bool, true, false, ◌&&◌, ◌==◌, List, [], ◌∷◌, take, Some, refl, ap, sym, subst, ◌∙◌, arith, inl, inr}
use Rattle.std.proofs.lemmas.Bool.{cases_Bool, eqb-true}
use Rattle.pc_model.specs.declared.event.Event.{Event}
use Rattle.pc_model.specs.declared.event.Event.TheVariants.{Assign, Poll, Success, Revoke, Lost, Crash}
use Rattle.pc_model.specs.Record.{Record}
use Rattle.pc_model.specs.Given.{Given}
use Rattle.pc_model.specs.Jobs.{Job, job_of, is_outstanding}
use Rattle.pc_model.specs.Epochs.{moves, epoch_of, is_held, is_current_ticket}
use Rattle.pc_model.specs.Known.{polled_count, records_from_begin, polled_records, unpolled_records, is_job_at, has_succeeded}
use Rattle.pc_model.specs.Lawful.{IsLegal}
use Rattle.pc_model.specs.OneMore.{touches}
use Rattle.pc_model.proofs.SamePart.{other_part}
use Rattle.pc_model.proofs.KnownLaws.{polled_records-same, polled_records-poll}
use Rattle.pc_laws.specs.Lists.{In}
use Rattle.pc_laws.proofs.Lists.{and-left, and-right, or-cases, true-not-false, In-append_left}
use Rattle.pc_laws.proofs.Passing.{option_cases}
use Rattle.pc_laws.proofs.PositionLaw.{from_begin-rises, held_apart}
use Rattle.pc_laws.proofs.Blocked.{drop-above}
use Rattle.pc_laws.proofs.JobsLaw.{job-of, out-job, keeps_jobs}

-- ---- an epoch that is still to come

pub epoch-before : (v : Event) (h : List Event) (p : ℕ) → epoch_of h p ≤ epoch_of (v ∷ h) p
epoch-before v h p = elim (cases_Bool (moves v p))
    [ inl moved ↦ rw moved (omega arith) | inr still ↦ rw still (omega arith) ]

-- a job of an epoch that is over or is the present one is of none to come
not-early : (e x n : ℕ) (held : Bool) → (x < n) ⊎ ((x ≡ n) × (held ≡ true)) → n < e → x ≡ e → ⊥
not-early e x n held (inl past) later is = omega arith
not-early e x n held (inr present) later is = let same : x ≡ n = present.0 in omega arith

-- a test of a job is one of its part, its epoch and its offset
pub job-at : (j : Job) (p e o : ℕ) → is_job_at (Some j) p e o ≡ true →
    (j.part ≡ p) × (j.epoch ≡ e) × (j.offset ≡ o)
job-at j p e o at = let first = and-left _ _ at in (
  eqb-true j.part p (and-left _ _ first),
  eqb-true j.epoch e (and-right (j.part == p) _ first),
  eqb-true j.offset o (and-right ((j.part == p) && (j.epoch == e)) _ at),
)

-- the job of a ticket is of no epoch that is still to come
pub early-job : (given : Given) (h : List Event) (t p e o : ℕ) → IsLegal given h → epoch_of h p < e →
    is_job_at (job_of h t) p e o ≡ false
early-job given h t p e o legal later = elim (option_cases (job_of h t)) [
  | inl none ↦ rw none refl
  | inr some ↦ elim (cases_Bool (is_job_at (job_of h t) p e o)) [
    | inr apart ↦ apart
    | inl at ↦
        let is = job-at some.0 p e o (rw some.1 at at) in
        absurd (not-early e some.0.epoch (epoch_of h some.0.part) (is_held h some.0.part)
        ((keeps_jobs given h legal).past some.0 (job-of h t some.0 some.1).0)
        (subst (λ (q : ℕ). epoch_of h q < e) (sym is.0) later) is.1)
  ]
]

pub unsucceeded-later : (given : Given) (h : List Event) → IsLegal given h →
    (p e o : ℕ) → epoch_of h p < e → has_succeeded h p e o ≡ false
unsucceeded-later given [] legal p e o later = refl
unsucceeded-later given (Success t answer ∷ h) legal p e o later =
    rw (early-job given h t p e o legal.2 later)
    (unsucceeded-later given h legal.2 p e o later)
unsucceeded-later given (v ∷ h) legal p e o later =
    unsucceeded-later given h legal.2 p e o
    (let before = epoch-before v h p in omega (arith, before))

-- ---- the present epoch

-- a polled record of the part at the offset
abbrev pub WasPolled : Given → List Event → ℕ → ℕ → Type 0
WasPolled given h p o = (r : Record) × In r (polled_records given h p) × (r.offset ≡ o)

-- the job of a success that is lawful now was at work on a polled record
pub success-polled : (given : Given) (h : List Event) (t p o : ℕ) → IsLegal given h
    → is_outstanding h t ≡ true → is_current_ticket h t ≡ true
    → is_job_at (job_of h t) p (epoch_of h p) o ≡ true → WasPolled given h p o
success-polled given h t p o legal out now at =
    let j = out-job h t out now in
    let is = job-at j.0 p (epoch_of h p) o (rw j.1 at at) in
    let polled = ((keeps_jobs given h legal).working j.0 j.2 j.3).polled in (
      polled.0,
      subst (λ (q : ℕ). In polled.0 (polled_records given h q)) is.0 polled.1,
      polled.2 ∙ is.2,
    )

-- an event that does not touch the part
other-polled : (given : Given) (v : Event) (h : List Event) (p o : ℕ) → touches v h p ≡ false
    → (has_succeeded h p (epoch_of h p) o ≡ true → WasPolled given h p o)
    → has_succeeded (v ∷ h) p (epoch_of (v ∷ h) p) o ≡ true → WasPolled given (v ∷ h) p o
other-polled given v h p o apart before done =
    let same = other_part given p v h apart in
    let at = before (sym (same.succeeded (epoch_of h p) o)
    ∙ ap (λ (e : ℕ). has_succeeded (v ∷ h) p e o) (sym same.epoch) ∙ done) in
    (at.0, rw (polled_records-same given p h (v ∷ h) same) at.1, at.2)

pub succeeded-polled : (given : Given) (h : List Event) → IsLegal given h → (p o : ℕ) →
    is_held h p ≡ true → has_succeeded h p (epoch_of h p) o ≡ true →
    (r : Record) × In r (polled_records given h p) × (r.offset ≡ o)
unfolding polled_records
succeeded-polled given [] legal p o held done = cc
succeeded-polled given (Assign q epoch position text ∷ h) legal p o held done = elim
    (cases_Bool (q == p)) [
      | inl same ↦
          let at : has_succeeded h p (epoch_of h p + 1) o ≡ true = rw same at done in
          true-not-false _ at
          (unsucceeded-later given h legal.2 p (epoch_of h p + 1) o (omega arith))
      | inr apart ↦ other-polled given (Assign q epoch position text) h p o apart
          (succeeded-polled given h legal.2 p o (rw apart at held)) done
    ]
succeeded-polled given (Poll q count last ∷ h) legal p o held done = elim
    (cases_Bool (q == p)) [
      | inl same ↦
          let at = succeeded-polled given h legal.2 p o held done in
          subst (λ (u : ℕ). WasPolled given (Poll u count last ∷ h) p o) (sym (eqb-true q p same)) (
            at.0,
            rw (polled_records-poll given h p count last)
                (In-append_left at.0 (polled_records given h p)
                (take count (unpolled_records given h p)) at.1),
            at.2,
          )
      | inr apart ↦ other-polled given (Poll q count last) h p o apart
          (succeeded-polled given h legal.2 p o held) done
    ]
succeeded-polled given (Success t answer ∷ h) legal p o held done = elim
    (or-cases (is_job_at (job_of h t) p (epoch_of h p) o) _ done) [
      | inl now ↦
          success-polled given h t p o legal.2 legal.0.outstanding legal.0.current now
      | inr before ↦ succeeded-polled given h legal.2 p o held before
    ]
succeeded-polled given (Revoke q epoch ∷ h) legal p o held done =
    let at = held_apart (q == p) (is_held h p) held in
    other-polled given (Revoke q epoch) h p o at.0 (succeeded-polled given h legal.2 p o at.1) done
succeeded-polled given (Lost q epoch ∷ h) legal p o held done =
    let at = held_apart (q == p) (is_held h p) held in
    other-polled given (Lost q epoch) h p o at.0 (succeeded-polled given h legal.2 p o at.1) done
succeeded-polled given (Crash ∷ h) legal p o held done = cc
succeeded-polled given (v ∷ h) legal p o held done =
    succeeded-polled given h legal.2 p o held done

-- so no record that is still to be polled
pub unpolled-unsucceeded : (given : Given) (h : List Event) → IsLegal given h → (p : ℕ) →
    is_held h p ≡ true → (r : Record) → In r (unpolled_records given h p) →
    has_succeeded h p (epoch_of h p) r.offset ≡ false
unfolding polled_records unpolled_records
unpolled-unsucceeded given h legal p held r i = elim
    (cases_Bool (has_succeeded h p (epoch_of h p) r.offset)) [
      | inr not_done ↦ not_done
      | inl done ↦
          let s = succeeded-polled given h legal p r.offset held done in
          let is : s.0.offset ≡ r.offset = s.2 in
          let below : s.0.offset < r.offset = drop-above (polled_count h p) 0
          (records_from_begin given h p) (from_begin-rises given h legal p) s.0 r s.1 i in
          absurd (omega arith)
    ]
