-- The time of a record has come where a current job is out for it, and what did not fail waits for no
-- time; so a record whose time is still to come has failed, and no job of it is out.
use Rattle.std.proofs.Common.{◌≡◌, ◌⊎◌, ℕ, zero, suc, ◌+◌, ◌≤◌, ◌<◌, true, false, not, ◌&&◌, ◌==◌, List, [], ◌∷◌, Some, refl, ap, sym, subst, ◌∙◌, arith, inl, inr, eq-eqb}
use Rattle.std.specs.List.{list_any}
use Rattle.std.proofs.lemmas.Bool.{cases_Bool, leb-true}
use Rattle.pc_model.specs.declared.event.Event.{Event}
use Rattle.pc_model.specs.declared.event.Event.TheVariants.{Assign, Crash, Dispatch, Failure, Lost, Revoke, Tick}
use Rattle.pc_model.specs.Given.{Given}
use Rattle.pc_model.specs.Jobs.{Job, is_settled, job_of, jobs_of, open_jobs}
use Rattle.pc_model.specs.Epochs.{epoch_of, is_assign, is_current, is_held, moves}
use Rattle.pc_model.specs.Known.{is_job_at}
use Rattle.pc_model.specs.Lawful.{DispatchIsLawful, IsLegal}
use Rattle.pc_model.specs.Next.{is_eligible_record, next_record}
use Rattle.pc_model.specs.OneMore.{SamePart, touches}
use Rattle.pc_model.specs.Retry.{failures_in, failures_of, now_of, ready_in, ready_of}
use Rattle.pc_model.proofs.SamePart.{other_part}
use Rattle.pc_laws.specs.Lists.{In}
use Rattle.pc_laws.specs.Kept.{KeepsJobs}
use Rattle.pc_laws.proofs.FailedLaw.{unfailed-moved}
use Rattle.pc_laws.proofs.JobsLaw.{keeps_jobs, not-current, open-before, open-job, out-job}
use Rattle.pc_laws.proofs.Lists.{In-filter, In-filtered, In-list_any, and-left, and-right, true-not-false}
use Rattle.pc_laws.proofs.OrderlyLaw.{next_record-In}
use Rattle.pc_laws.proofs.SucceededLaw.{job-at}
use Rattle.pc_state.specs.State.{is_out}
use Rattle.pc_state.proofs.StateLemmas.{ready-same}
use Rattle.pc_state.proofs.WorkLemmas.{at-only}

-- ---- what did not fail

-- an offset that did not fail has no ready time
ready-unfailed : (h : List Event) (p e o : ℕ) → failures_in h p e o ≡ 0 → ready_in h p e o ≡ 0
ready-unfailed [] p e o none = refl
ready-unfailed (Failure t code ready ∷ h) p e o none = elim (cases_Bool (is_job_at (job_of h t) p e o)) [
  | inl here ↦ let some : failures_in h p e o + 1 ≡ 0 = rw here at none in absurd (omega arith)
  | inr there ↦ let rest : failures_in h p e o ≡ 0 = rw there at none in
      rw there (ready-unfailed h p e o rest)
]
ready-unfailed (v ∷ h) p e o none = ready-unfailed h p e o none

-- so one whose time is still to come has failed
pub early-failed : (h : List Event) (p o : ℕ) → now_of h < ready_of h p o → 0 < failures_of h p o
early-failed h p o later = elim (zero-or-more (failures_of h p o)) [
  | inl none ↦ let is = ready-unfailed h p (epoch_of h p) o none in absurd (omega (arith, is, later))
  | inr some ↦ some
]
  where
    zero-or-more : (n : ℕ) → (n ≡ 0) ⊎ (0 < n)
    zero-or-more zero = inl refl
    zero-or-more (suc n) = inr (omega arith)

-- ---- what is out

-- the ready time of each current job that is out has come
abbrev HaveCome : List Event → Type 0
HaveCome h = (j : Job) → In j (open_jobs h) → is_current h j ≡ true
    → ready_of h j.part j.offset ≤ now_of h

module _ (given : Given) (v : Event) (h : List Event) (come : HaveCome h)
    (same : jobs_of (v ∷ h) ≡ jobs_of h) (now : now_of h ≤ now_of (v ∷ h)) where
  come-same : (j : Job) → SamePart given j.part h (v ∷ h) → In j (open_jobs h)
      → is_current (v ∷ h) j ≡ true → ready_of (v ∷ h) j.part j.offset ≤ now_of (v ∷ h)
  come-same j part i current =
      let before : is_current h j ≡ true = rw (part.held, part.epoch) at current in
      let le = come j i before in
      let is = ready-same given h (v ∷ h) j.part j.offset part in omega (arith, le, is, now)

  -- an event that touches no part but those whose epoch it begins or ends
  come-epochs : KeepsJobs given h → ((p : ℕ) → moves v p ≡ false → touches v h p ≡ false)
      → HaveCome (v ∷ h)
  come-epochs keeps quiet = λ j i current.
      let before = open-before v h j same i in
      elim (cases_Bool (moves v j.part)) [
        | inl moved ↦ absurd (not-current j.epoch (epoch_of h j.part) (is_assign v)
            (is_held h j.part) (keeps.past j (open-job h j before.0)) (rw moved at current))
        | inr still ↦ come-same j (other_part given j.part v h (quiet j.part still)) before.0 current
      ]

  -- an event that touches nothing of failures, times and epochs
  come-quiet : ((j : Job) → is_current (v ∷ h) j ≡ is_current h j)
      → ((p o : ℕ) → ready_of (v ∷ h) p o ≡ ready_of h p o) → HaveCome (v ∷ h)
  come-quiet still ready = λ j i current.
      let before = open-before v h j same i in
      let le = come j before.0 (sym (still j) ∙ current) in
      let is = ready j.part j.offset in omega (arith, le, is, now)

-- the time of the next record has come
next-come : (given : Given) (h : List Event) (p o : ℕ) → next_record given h ≡ Some (p, o)
    → ready_of h p o ≤ now_of h
unfolding is_eligible_record
next-come given h p o next =
    let at = (next_record-In given h p o next).1 in
    subst (λ (u : ℕ). ready_of h p u ≤ now_of h) at.2
    (leb-true (ready_of h p at.0.offset) (now_of h) (and-right _ _ (and-left _ _ at.3)))

come-dispatch : (given : Given) (h : List Event) (t w p o e a : ℕ) → HaveCome h
    → DispatchIsLawful given h t w p o e a → HaveCome (Dispatch t w p o e a ∷ h)
come-dispatch given h t w p o e a come lawful = λ j i current.
    let at = In-filtered (λ (x : Job). not (is_settled h x.ticket)) j
    (record { ticket = t; worker = w; part = p; offset = o; epoch = e; attempt = a } ∷ jobs_of h) i in
    elim at.0 [
      | inl same ↦ subst (λ (x : Job). ready_of h x.part x.offset ≤ now_of h) (sym same)
          (next-come given h p o lawful.record_is)
      | inr old ↦ come j (In-filter (λ (x : Job). not (is_settled h x.ticket)) j (jobs_of h) old at.1)
          current
    ]

-- a failure is of no other job that is out
come-failure : (given : Given) (h : List Event) (t code ready : ℕ)
    → IsLegal given (Failure t code ready ∷ h) → HaveCome h → HaveCome (Failure t code ready ∷ h)
come-failure given h t code ready legal come = λ j i current.
    let before = open-before (Failure t code ready) h j refl i in
    let le = come j before.0 current in
    let failing = out-job h t legal.0.outstanding legal.0.current in
    elim (cases_Bool (is_job_at (job_of h t) j.part (epoch_of h j.part) j.offset)) [
      | inr apart ↦ rw apart le
      | inl own ↦
          let here : is_job_at (Some failing.0) j.part (epoch_of h j.part) j.offset ≡ true =
          rw failing.1 at own in
          let is = job-at failing.0 j.part (epoch_of h j.part) j.offset here in
          let held : is_held h j.part ≡ true = and-left (is_held h j.part) _ current in
          let at : is_job_at (Some j) j.part (epoch_of h j.part) j.offset ≡ true = rw (
            eq-eqb j.part j.part refl,
            and-right (is_held h j.part) (j.epoch == epoch_of h j.part) current,
            eq-eqb j.offset j.offset refl,
          ) refl in
          let ticket : j.ticket ≡ t = at-only given h t j.part j.offset legal.2 (record {
            job = failing.0;
            is = failing.1;
            out = failing.2;
            ticket = failing.4;
            part = is.0;
            offset = is.2;
            epoch = is.1;
            held = held;
          }) j before.0 at in
          true-not-false (t == j.ticket) (eq-eqb t j.ticket (sym ticket)) before.1
    ]

pub have-come : (given : Given) (h : List Event) → IsLegal given h → HaveCome h
have-come given [] legal = λ j i current. absurd i
have-come given (Assign q epoch position text ∷ h) legal = come-epochs given
    (Assign q epoch position text) h (have-come given h legal.2) refl (omega arith)
    (keeps_jobs given h legal.2) (λ p still. still)
have-come given (Revoke q epoch ∷ h) legal = come-epochs given (Revoke q epoch) h
    (have-come given h legal.2) refl (omega arith) (keeps_jobs given h legal.2) (λ p still. still)
have-come given (Lost q epoch ∷ h) legal = come-epochs given (Lost q epoch) h
    (have-come given h legal.2) refl (omega arith) (keeps_jobs given h legal.2) (λ p still. still)
have-come given (Crash ∷ h) legal = come-epochs given Crash h (have-come given h legal.2) refl
    (omega arith) (keeps_jobs given h legal.2) (λ p still. cc)
have-come given (Dispatch t w p o e a ∷ h) legal = come-dispatch given h t w p o e a
    (have-come given h legal.2) legal.0
have-come given (Failure t code ready ∷ h) legal = come-failure given h t code ready legal
    (have-come given h legal.2)
have-come given (Tick now ∷ h) legal = come-quiet given (Tick now) h (have-come given h legal.2) refl
    (let later : now_of h < now = legal.0 in omega (arith, later)) (λ j. refl) (λ p o. refl)
have-come given (v ∷ h) legal = come-quiet given v h (have-come given h legal.2) refl (omega arith)
    (λ j. refl) (λ p o. refl)

-- so no job is out where the time is still to come
pub early-idle : (given : Given) (h : List Event) (p o : ℕ) → IsLegal given h → is_held h p ≡ true
    → now_of h < ready_of h p o → is_out h p o ≡ false
unfolding is_out
early-idle given h p o legal held later = elim (cases_Bool (list_any
    (λ j. is_job_at (Some j) p (epoch_of h p) o) (open_jobs h))) [
      | inr none ↦ none
      | inl some ↦
          let j = In-list_any (λ (j : Job). is_job_at (Some j) p (epoch_of h p) o) (open_jobs h) some in
          let is = job-at j.0 p (epoch_of h p) o j.2 in
          let current : is_current h j.0 ≡ true = subst
          (λ (q : ℕ). (is_held h q && (j.0.epoch == epoch_of h q)) ≡ true) (sym is.0)
          (rw (held, eq-eqb j.0.epoch (epoch_of h p) is.1) refl) in
          let le = have-come given h legal j.0 j.1 current in
          let at : ready_of h j.0.part j.0.offset ≡ ready_of h p o =
          ap (λ (q : ℕ). ready_of h q j.0.offset) is.0 ∙ ap (ready_of h p) is.2 in
          absurd (omega (arith, le, at, later))
    ]

-- ---- a part that is not held

-- nothing of it failed in its present epoch
pub failures-free : (given : Given) (h : List Event) (p o : ℕ) → IsLegal given h
    → is_held h p ≡ false → failures_of h p o ≡ 0
failures-free given [] p o legal free = refl
failures-free given (Assign q epoch position text ∷ h) p o legal free = elim (cases_Bool (q == p)) [
  | inl same ↦ (unfailed-moved given (Assign q epoch position text) h legal.2 p o same).failures
  | inr apart ↦ let before : is_held h p ≡ false = rw apart at free in
      rw apart (failures-free given h p o legal.2 before)
]
failures-free given (Revoke q epoch ∷ h) p o legal free = elim (cases_Bool (q == p)) [
  | inl same ↦ (unfailed-moved given (Revoke q epoch) h legal.2 p o same).failures
  | inr apart ↦ let before : is_held h p ≡ false = rw apart at free in
      rw apart (failures-free given h p o legal.2 before)
]
failures-free given (Lost q epoch ∷ h) p o legal free = elim (cases_Bool (q == p)) [
  | inl same ↦ (unfailed-moved given (Lost q epoch) h legal.2 p o same).failures
  | inr apart ↦ let before : is_held h p ≡ false = rw apart at free in
      rw apart (failures-free given h p o legal.2 before)
]
failures-free given (Crash ∷ h) p o legal free = (unfailed-moved given Crash h legal.2 p o refl).failures
failures-free given (Failure t code ready ∷ h) p o legal free =
    let failing = out-job h t legal.0.outstanding legal.0.current in
    elim (cases_Bool (is_job_at (job_of h t) p (epoch_of h p) o)) [
      | inr apart ↦ rw apart (failures-free given h p o legal.2 free)
      | inl own ↦
          let here : is_job_at (Some failing.0) p (epoch_of h p) o ≡ true = rw failing.1 at own in
          let is = job-at failing.0 p (epoch_of h p) o here in
          let held : is_held h failing.0.part ≡ true = and-left (is_held h failing.0.part) _ failing.3 in
          true-not-false (is_held h p) (ap (is_held h) (sym is.0) ∙ held) free
    ]
failures-free given (v ∷ h) p o legal free = failures-free given h p o legal.2 free
