-- How often one record of a part is dispatched in an epoch, how often in vain, and how often it
-- succeeds: by the failures and the successes that there were, and the job that is out.
use Rattle.std.proofs.Common.{◌≡◌, ℕ, zero, suc, ◌+◌, ◌≤◌, ◌<◌, Bool, true, false, not, ◌&&◌, ◌||◌, ◌==◌, List, [], ◌∷◌, Option, Some, refl, ap, sym, subst, ◌∙◌, arith, inl, inr, eq-eqb}
use Rattle.std.specs.List.{list_any}
use Rattle.std.specs.Cmp.Derive.{both_true}
use Rattle.std.proofs.lemmas.Bool.{cases_Bool, cases_lt, eqb-true}
use Rattle.pc_model.specs.declared.event.Event.{Event}
use Rattle.pc_model.specs.declared.event.Event.TheVariants.{Assign, Poll, Dispatch, Success, Failure, Stale, Commit as Committed, CommitFailed, Revoke, Lost, Crash, Tick, Drain, Done, Closed}
use Rattle.pc_model.specs.declared.outcome.Outcome.{Outcome}
use Rattle.pc_model.specs.declared.outcome.Outcome.TheVariants.{Good, Bad}
use Rattle.pc_model.specs.Record.{Record}
use Rattle.pc_model.specs.Given.{Given, record_at}
use Rattle.pc_model.specs.Jobs.{Job, job_of, jobs_of, dispatch_count, is_settled, open_jobs, settles}
use Rattle.pc_model.specs.Epochs.{epoch_of, is_held, is_current, is_current_ticket}
use Rattle.pc_model.specs.Known.{is_complete, is_job_at, has_succeeded}
use Rattle.pc_model.specs.Retry.{failures_in, failures_of}
use Rattle.pc_model.specs.Outcomes.{job_outcome, ticket_outcome}
use Rattle.pc_model.specs.Lawful.{IsLegal, DispatchIsLawful, SuccessIsLawful}
use Rattle.pc_model.specs.Pace.{is_failing}
use Rattle.pc_model.specs.Bound.{failing_attempts, failing_from, if_bad}
use Rattle.pc_laws.specs.Lists.{In}
use Rattle.pc_laws.specs.Kept.{is_assign_of}
use Rattle.pc_laws.proofs.Lists.{and-left, and-right, not-true, true-not-false, In-filter, In-filtered, In-list_any, list_any-In}
use Rattle.pc_laws.proofs.FirstLaw.{busy-out}
use Rattle.pc_laws.proofs.JobsLaw.{keeps_jobs, open-job, out-job}
use Rattle.pc_laws.proofs.OrderlyLaw.{eligible-first, eligible-free, next_record-In}
use Rattle.pc_laws.proofs.StaleLaw.{job_of-In}
use Rattle.pc_laws.proofs.SucceededLaw.{job-at}
use Rattle.pc_laws.proofs.TicketLaw.{unsettled-above}
use Rattle.pc_run_laws.proofs.AttemptsLaw.{attempts-most, failures-most}
use Rattle.pc_run_laws.proofs.RestLaw.{eligible-incomplete}
use Rattle.pc_run_laws.proofs.Tally.{Test, add_if, add_if-one, tally}

-- ---- the tests

-- an assignment of the part begins an epoch
abbrev pub anew : ℕ → Event → Bool
anew p e = is_assign_of e p

-- the record at the offset of the part is dispatched
abbrev pub dispatches_at : ℕ → ℕ → Test
dispatches_at p o (Dispatch t w q u e a) h = (q == p) && (u == o)
dispatches_at p o _ h = false

-- a dispatch of an attempt that fails
abbrev pub fails : Given → Test
fails given (Dispatch t w q u e a) h = is_failing (job_outcome given (record
    { ticket = t; worker = w; part = q; offset = u; epoch = e; attempt = a }))
fails given _ h = false

abbrev pub fails_at : Given → ℕ → ℕ → Test
fails_at given p o e h = dispatches_at p o e h && fails given e h

-- a success of the offset in the present epoch
abbrev pub succeeds_at : ℕ → ℕ → Test
succeeds_at p o (Success t answer) h = is_job_at (job_of h t) p (epoch_of h p) o
succeeds_at p o _ h = false

-- ---- a job that is out at the offset, in the present epoch

abbrev pub is_out : List Event → ℕ → ℕ → Bool
is_out h p o = list_any (λ j. is_job_at (Some j) p (epoch_of h p) o) (open_jobs h)

-- one whose attempt fails
abbrev pub is_failing_out : Given → List Event → ℕ → ℕ → Bool
is_failing_out given h p o = list_any
    (λ j. is_job_at (Some j) p (epoch_of h p) o && is_failing (job_outcome given j)) (open_jobs h)

-- what the counts of an epoch come to
pub record CountsAt (given : Given) (h : List Event) (p o : ℕ) : Type 0 where
  pub dispatched : tally (anew p) (dispatches_at p o) h
      ≤ failures_of h p o + add_if (has_succeeded h p (epoch_of h p) o) 0 + add_if (is_out h p o) 0
  pub failed : tally (anew p) (fails_at given p o) h
      ≤ failures_of h p o + add_if (is_failing_out given h p o) 0
  pub succeeded : tally (anew p) (succeeds_at p o) h ≤ add_if (has_succeeded h p (epoch_of h p) o) 0

-- ---- jobs that stay out

-- a job that the event does not settle stays out
stays-open : (e : Event) (h : List Event) (j : Job) → ((k : Job) → In k (jobs_of h) → In k (jobs_of (e ∷ h)))
    → In j (open_jobs h) → settles e j.ticket ≡ false → In j (open_jobs (e ∷ h))
stays-open e h j more i out =
    let at = In-filtered (λ (x : Job). not (is_settled h x.ticket)) j (jobs_of h) i in
    In-filter (λ (x : Job). not (settles e x.ticket || is_settled h x.ticket)) j (jobs_of (e ∷ h))
    (more j at.0) (rw (out, not-true _ at.1) refl)

-- where each job at the offset stays out, one is out after the event if one was before
out-stays : (e : Event) (h : List Event) (f g : Job → Bool)
    → ((j : Job) → In j (open_jobs h) → f j ≡ true → In j (open_jobs (e ∷ h)) × (g j ≡ true))
    → add_if (list_any f (open_jobs h)) 0 ≤ add_if (list_any g (open_jobs (e ∷ h))) 0
out-stays e h f g stays = elim (cases_Bool (list_any f (open_jobs h))) [
  | inr none ↦ rw none (omega arith)
  | inl some ↦
      let one = In-list_any f (open_jobs h) some in
      let at = stays one.0 one.1 one.2 in
      rw (list_any-In g one.0 (open_jobs (e ∷ h)) at.0 at.1, some) (omega arith)
]

-- a job at an offset of the present epoch of a held part is current
at-current : (h : List Event) (p o : ℕ) (j : Job) → is_held h p ≡ true
    → is_job_at (Some j) p (epoch_of h p) o ≡ true → is_current h j ≡ true
at-current h p o j held at =
    let is = job-at j p (epoch_of h p) o at in
    subst (λ (q : ℕ). (is_held h q && (j.epoch == epoch_of h q)) ≡ true) (sym is.0)
    (both_true held (eq-eqb j.epoch (epoch_of h p) is.1))

-- ---- an event that is nothing to the record

module _ (given : Given) (e : Event) (h : List Event) (p o : ℕ)
    (goes : is_assign_of e p ≡ false) (still : dispatches_at p o e h ≡ false)
    (unsucceeded : succeeds_at p o e h ≡ false)
    (epoch : epoch_of (e ∷ h) p ≡ epoch_of h p)
    (succeeded : has_succeeded (e ∷ h) p (epoch_of h p) o ≡ has_succeeded h p (epoch_of h p) o)
    (failures : failures_in (e ∷ h) p (epoch_of h p) o ≡ failures_in h p (epoch_of h p) o)
    (more : (k : Job) → In k (jobs_of h) → In k (jobs_of (e ∷ h)))
    (keeps : (j : Job) → In j (open_jobs h) → is_job_at (Some j) p (epoch_of h p) o ≡ true
    → settles e j.ticket ≡ false) (counts : CountsAt given h p o) where
  carries : CountsAt given (e ∷ h) p o
  carries =
      let out : add_if (is_out h p o) 0 ≤ add_if (is_out (e ∷ h) p o) 0 = out-stays e h
      (λ j. is_job_at (Some j) p (epoch_of h p) o) (λ j. is_job_at (Some j) p (epoch_of (e ∷ h) p) o)
      (λ j i at. (stays-open e h j more i (keeps j i at), rw epoch at)) in
      let failing : add_if (is_failing_out given h p o) 0 ≤ add_if (is_failing_out given (e ∷ h) p o) 0 =
      out-stays e h
      (λ j. is_job_at (Some j) p (epoch_of h p) o && is_failing (job_outcome given j))
      (λ j. is_job_at (Some j) p (epoch_of (e ∷ h) p) o && is_failing (job_outcome given j))
      (λ j i at. (stays-open e h j more i (keeps j i (and-left _ _ at)), rw epoch at)) in
      let fewer : failures_of (e ∷ h) p o ≡ failures_of h p o =
      ap (λ (x : ℕ). failures_in (e ∷ h) p x o) epoch ∙ failures in
      let done : add_if (has_succeeded (e ∷ h) p (epoch_of (e ∷ h) p) o) 0
      ≡ add_if (has_succeeded h p (epoch_of h p) o) 0 =
      ap (λ (x : ℕ). add_if (has_succeeded (e ∷ h) p x o) 0) epoch ∙ ap (λ (b : Bool). add_if b 0) succeeded in
      let all : tally (anew p) (dispatches_at p o) (e ∷ h) ≡ tally (anew p) (dispatches_at p o) h =
      rw (goes, still) refl in
      let bad : tally (anew p) (fails_at given p o) (e ∷ h) ≡ tally (anew p) (fails_at given p o) h =
      rw (goes, still) refl in
      let good : tally (anew p) (succeeds_at p o) (e ∷ h) ≡ tally (anew p) (succeeds_at p o) h =
      rw (goes, unsucceeded) refl in
      let dispatched : tally (anew p) (dispatches_at p o) h
      ≤ failures_of h p o + add_if (has_succeeded h p (epoch_of h p) o) 0 + add_if (is_out h p o) 0 = counts.dispatched in
      let failed : tally (anew p) (fails_at given p o) h
      ≤ failures_of h p o + add_if (is_failing_out given h p o) 0 = counts.failed in
      let succeeds : tally (anew p) (succeeds_at p o) h ≤ add_if (has_succeeded h p (epoch_of h p) o) 0 = counts.succeeded in
      record { dispatched = omega arith; failed = omega arith; succeeded = omega arith }

-- ---- the events that are something to the record

-- a new epoch has no counts
begins : (given : Given) (e : Event) (h : List Event) (p o : ℕ) → is_assign_of e p ≡ true
    → CountsAt given (e ∷ h) p o
begins given e h p o anew_now =
    let all : tally (anew p) (dispatches_at p o) (e ∷ h) ≡ 0 = rw anew_now refl in
    let bad : tally (anew p) (fails_at given p o) (e ∷ h) ≡ 0 = rw anew_now refl in
    let good : tally (anew p) (succeeds_at p o) (e ∷ h) ≡ 0 = rw anew_now refl in
    record { dispatched = omega arith; failed = omega arith; succeeded = omega arith }

-- ---- the job of a ticket

some-same : (i j : Job) → ◌≡◌ {A = Option Job} (Some i) (Some j) → i ≡ j
some-same i j e = cc

-- two jobs of one ticket are one
pub same-job : (given : Given) (h : List Event) (t : ℕ) (i j : Job) → IsLegal given h → job_of h t ≡ Some i
    → In j (open_jobs h) → (t == j.ticket) ≡ true → i ≡ j
same-job given h t i j legal found out is =
    let of : job_of h t ≡ Some j = subst (λ (u : ℕ). job_of h u ≡ Some j) (sym (eqb-true t j.ticket is))
    (job_of-In given h legal j (open-job h j out)) in
    let both : Some i ≡ Some j = sym found ∙ of in some-same i j both

-- a job that is out and is not that of the ticket
other-ticket : (given : Given) (h : List Event) (t : ℕ) (i j : Job) → IsLegal given h → job_of h t ≡ Some i
    → In j (open_jobs h) → (i ≡ j → ⊥) → (t == j.ticket) ≡ false
other-ticket given h t i j legal found out apart = elim (cases_Bool (t == j.ticket)) [
  | inr other ↦ other
  | inl is ↦ absurd (apart (same-job given h t i j legal found out is))
]

unsucceeded-of : (h : List Event) (p o : ℕ) → is_complete h p o ≡ false
    → has_succeeded h p (epoch_of h p) o ≡ false
unfolding is_complete
unsucceeded-of h p o waits = elim (cases_Bool (has_succeeded h p (epoch_of h p) o)) [
  | inr still ↦ still
  | inl done ↦ let nothing = rw done at waits in cc nothing
]

-- the record of a current job that is out at the offset has not succeeded
out-unsucceeded : (given : Given) (h : List Event) (p o : ℕ) (j : Job) → IsLegal given h
    → In j (open_jobs h) → is_current h j ≡ true → is_job_at (Some j) p (epoch_of h p) o ≡ true
    → has_succeeded h p (epoch_of h p) o ≡ false
out-unsucceeded given h p o j legal i current at =
    let is = job-at j p (epoch_of h p) o at in
    let waits : is_complete h j.part j.offset ≡ false = ((keeps_jobs given h legal).working j i current).incomplete in
    unsucceeded-of h p o (subst (λ (u : ℕ). is_complete h p u ≡ false) is.2
    (subst (λ (q : ℕ). is_complete h q j.offset ≡ false) is.0 waits))

none-failing : (given : Given) (h : List Event) (p o : ℕ) → is_out h p o ≡ false
    → is_failing_out given h p o ≡ false
none-failing given h p o none = elim (cases_Bool (is_failing_out given h p o)) [
  | inr still ↦ still
  | inl some ↦
      let one = In-list_any
      (λ j. is_job_at (Some j) p (epoch_of h p) o && is_failing (job_outcome given j)) (open_jobs h) some in
      true-not-false (is_out h p o) (list_any-In (λ j. is_job_at (Some j) p (epoch_of h p) o) one.0 (open_jobs h)
      one.1 (and-left _ _ one.2)) none
]

pub outcome-of : (given : Given) (h : List Event) (t : ℕ) (j : Job) (outcome : Outcome) → job_of h t ≡ Some j
    → ticket_outcome given h t ≡ Some outcome → job_outcome given j ≡ Some outcome
unfolding ticket_outcome
outcome-of given h t j outcome found is = let at = rw found at is in at

module _ (given : Given) (h : List Event) (p o : ℕ) (legal : IsLegal given h)
    (counts : CountsAt given h p o) where
  -- a dispatch of the record
  dispatched-at : (t w e a : ℕ) → DispatchIsLawful given h t w p o e a
      → CountsAt given (Dispatch t w p o e a ∷ h) p o
  dispatched-at t w e a lawful =
      let next = next_record-In given h p o lawful.record_is in
      let waits : is_complete h p o ≡ false = subst (λ (u : ℕ). is_complete h p u ≡ false) next.1.2
      (eligible-incomplete given h p next.1.0 next.1.3) in
      let undone : has_succeeded h p (epoch_of h p) o ≡ false = unsucceeded-of h p o waits in
      let none : is_out h p o ≡ false = subst (λ (u : ℕ). is_out h p u ≡ false) next.1.2
      (sym (busy-out given h legal p next.1.0 next.0 next.1.1
      (eligible-incomplete given h p next.1.0 next.1.3) (eligible-first given h p next.1.0 next.1.3))
      ∙ eligible-free given h p next.1.0 next.1.3) in
      let job : Job = record { ticket = t; worker = w; part = p; offset = o; epoch = e; attempt = a } in
      let place : In job (open_jobs (Dispatch t w p o e a ∷ h)) =
      In-filter (λ (x : Job). not (is_settled h x.ticket)) job (job ∷ jobs_of h) (inl refl)
      (rw (unsettled-above given h legal t (let k : t ≡ dispatch_count h + 1 = lawful.ticket_is in omega arith)) refl) in
      let at : is_job_at (Some job) p (epoch_of h p) o ≡ true =
      both_true (both_true (eq-eqb p p refl) (eq-eqb e (epoch_of h p) lawful.epoch_is)) (eq-eqb o o refl) in
      let now : is_out (Dispatch t w p o e a ∷ h) p o ≡ true =
      list_any-In (λ j. is_job_at (Some j) p (epoch_of h p) o) job (open_jobs (Dispatch t w p o e a ∷ h)) place at in
      let one : add_if (is_out (Dispatch t w p o e a ∷ h) p o) 0 ≡ 1 = rw now refl in
      let no_one : add_if (is_out h p o) 0 ≡ 0 = rw none refl in
      let no_more : add_if (is_failing_out given h p o) 0 ≡ 0 = rw (none-failing given h p o none) refl in
      let not_yet : add_if (has_succeeded h p (epoch_of h p) o) 0 ≡ 0 = rw undone refl in
      let test : dispatches_at p o (Dispatch t w p o e a) h ≡ true = both_true (eq-eqb p p refl) (eq-eqb o o refl) in
      let all : tally (anew p) (dispatches_at p o) (Dispatch t w p o e a ∷ h)
      ≡ suc (tally (anew p) (dispatches_at p o) h) = rw test refl in
      let before : tally (anew p) (dispatches_at p o) h
      ≤ failures_of h p o + add_if (has_succeeded h p (epoch_of h p) o) 0 + add_if (is_out h p o) 0 = counts.dispatched in
      let before_bad : tally (anew p) (fails_at given p o) h
      ≤ failures_of h p o + add_if (is_failing_out given h p o) 0 = counts.failed in
      record {
        dispatched = subst (λ (n : ℕ). n ≤ failures_of h p o + add_if (has_succeeded h p (epoch_of h p) o) 0
            + add_if (is_out (Dispatch t w p o e a ∷ h) p o) 0) (sym all) (omega arith);
        failed = elim (cases_Bool (fails given (Dispatch t w p o e a) h)) [
          | inl bad ↦
              let failing : is_failing_out given (Dispatch t w p o e a ∷ h) p o ≡ true =
              list_any-In (λ j. is_job_at (Some j) p (epoch_of h p) o && is_failing (job_outcome given j)) job
              (open_jobs (Dispatch t w p o e a ∷ h)) place (both_true at bad) in
              let more : add_if (is_failing_out given (Dispatch t w p o e a ∷ h) p o) 0 ≡ 1 = rw failing refl in
              let up : tally (anew p) (fails_at given p o) (Dispatch t w p o e a ∷ h)
              ≡ suc (tally (anew p) (fails_at given p o) h) = rw (test, bad) refl in
              subst (λ (n : ℕ). n ≤ failures_of h p o
              + add_if (is_failing_out given (Dispatch t w p o e a ∷ h) p o) 0) (sym up) (omega arith)
          | inr good ↦
              let same : tally (anew p) (fails_at given p o) (Dispatch t w p o e a ∷ h)
              ≡ tally (anew p) (fails_at given p o) h = rw (test, good) refl in
              subst (λ (n : ℕ). n ≤ failures_of h p o
              + add_if (is_failing_out given (Dispatch t w p o e a ∷ h) p o) 0) (sym same) (omega arith)
        ];
        succeeded = counts.succeeded;
      }

  -- a success of the record
  succeeded-at : (t : ℕ) (answer : List ℕ) (j : Job) → SuccessIsLawful given h t answer
      → job_of h t ≡ Some j → In j (open_jobs h) → is_current h j ≡ true
      → is_job_at (Some j) p (epoch_of h p) o ≡ true → CountsAt given (Success t answer ∷ h) p o
  succeeded-at t answer j lawful found i current at =
      let undone : has_succeeded h p (epoch_of h p) o ≡ false = out-unsucceeded given h p o j legal i current at in
      let test : is_job_at (job_of h t) p (epoch_of h p) o ≡ true = rw found at in
      let test_now : succeeds_at p o (Success t answer) h ≡ true = test in
      let done : has_succeeded (Success t answer ∷ h) p (epoch_of h p) o ≡ true = rw test refl in
      let one : add_if (has_succeeded (Success t answer ∷ h) p (epoch_of h p) o) 0 ≡ 1 = rw done refl in
      let not_yet : add_if (has_succeeded h p (epoch_of h p) o) 0 ≡ 0 = rw undone refl in
      let few : add_if (is_out h p o) 0 ≤ 1 = add_if-one (is_out h p o) in
      let stays : add_if (is_failing_out given h p o) 0 ≤ add_if (is_failing_out given (Success t answer ∷ h) p o) 0 =
      out-stays (Success t answer) h
      (λ k. is_job_at (Some k) p (epoch_of h p) o && is_failing (job_outcome given k))
      (λ k. is_job_at (Some k) p (epoch_of h p) o && is_failing (job_outcome given k))
      (λ k out bad. (
        stays-open (Success t answer) h k (λ x y. y) out
            (other-ticket given h t j k legal found out (λ same.
            let good : job_outcome given j ≡ Some (Good answer) = outcome-of given h t j (Good answer) found lawful.outcome in
            let failing : is_failing (job_outcome given j) ≡ true = subst (λ (x : Job). is_failing (job_outcome given x) ≡ true)
            (sym same) (and-right (is_job_at (Some k) p (epoch_of h p) o) _ bad) in
            let nothing = rw good at failing in cc nothing)),
        bad,
      )) in
      let before : tally (anew p) (dispatches_at p o) h
      ≤ failures_of h p o + add_if (has_succeeded h p (epoch_of h p) o) 0 + add_if (is_out h p o) 0 = counts.dispatched in
      let before_bad : tally (anew p) (fails_at given p o) h
      ≤ failures_of h p o + add_if (is_failing_out given h p o) 0 = counts.failed in
      let before_good : tally (anew p) (succeeds_at p o) h ≤ add_if (has_succeeded h p (epoch_of h p) o) 0 = counts.succeeded in
      let up : tally (anew p) (succeeds_at p o) (Success t answer ∷ h) ≡ suc (tally (anew p) (succeeds_at p o) h) =
      rw test_now refl in
      record {
        dispatched = let le : tally (anew p) (dispatches_at p o) h ≤ failures_of h p o
            + add_if (has_succeeded (Success t answer ∷ h) p (epoch_of h p) o) 0
            + add_if (is_out (Success t answer ∷ h) p o) 0 = omega arith in le;
        failed = let le : tally (anew p) (fails_at given p o) h ≤ failures_of h p o
            + add_if (is_failing_out given (Success t answer ∷ h) p o) 0 = omega arith in le;
        succeeded = let le : tally (anew p) (succeeds_at p o) (Success t answer ∷ h)
            ≤ add_if (has_succeeded (Success t answer ∷ h) p (epoch_of h p) o) 0 = omega arith in le;
      }

  -- a failure of the record
  failed-at : (t code ready : ℕ) (j : Job) → job_of h t ≡ Some j
      → is_job_at (Some j) p (epoch_of h p) o ≡ true → CountsAt given (Failure t code ready ∷ h) p o
  failed-at t code ready j found at =
      let test : is_job_at (job_of h t) p (epoch_of h p) o ≡ true = rw found at in
      let more : failures_of (Failure t code ready ∷ h) p o ≡ failures_of h p o + 1 = rw test refl in
      let few : add_if (is_out h p o) 0 ≤ 1 = add_if-one (is_out h p o) in
      let few_bad : add_if (is_failing_out given h p o) 0 ≤ 1 = add_if-one (is_failing_out given h p o) in
      let before : tally (anew p) (dispatches_at p o) h
      ≤ failures_of h p o + add_if (has_succeeded h p (epoch_of h p) o) 0 + add_if (is_out h p o) 0 = counts.dispatched in
      let before_bad : tally (anew p) (fails_at given p o) h
      ≤ failures_of h p o + add_if (is_failing_out given h p o) 0 = counts.failed in
      record {
        dispatched = let le : tally (anew p) (dispatches_at p o) h ≤ failures_of (Failure t code ready ∷ h) p o
            + add_if (has_succeeded h p (epoch_of h p) o) 0
            + add_if (is_out (Failure t code ready ∷ h) p o) 0 = omega arith in le;
        failed = let le : tally (anew p) (fails_at given p o) h ≤ failures_of (Failure t code ready ∷ h) p o
            + add_if (is_failing_out given (Failure t code ready ∷ h) p o) 0 = omega arith in le;
        succeeded = counts.succeeded;
      }

-- ---- every event

pub counts-at : (given : Given) (h : List Event) (p o : ℕ) → IsLegal given h → is_held h p ≡ true
    → CountsAt given h p o
counts-at given [] p o legal held = cc
counts-at given (Assign q epoch position text ∷ h) p o legal held = elim (cases_Bool (q == p)) [
  | inl now ↦ begins given (Assign q epoch position text) h p o now
  | inr apart ↦ carries given (Assign q epoch position text) h p o apart refl refl (rw apart refl) refl refl
      (λ k i. i) (λ j i at. refl) (counts-at given h p o legal.2 (rw apart at held))
]
counts-at given (Poll q count last ∷ h) p o legal held =
    carries given (Poll q count last) h p o refl refl refl refl refl refl (λ k i. i) (λ j i at. refl)
    (counts-at given h p o legal.2 held)
counts-at given (Dispatch t w q u e a ∷ h) p o legal held =
    let counts = counts-at given h p o legal.2 held in
    elim (cases_Bool ((q == p) && (u == o))) [
      | inr apart ↦ carries given (Dispatch t w q u e a) h p o refl apart refl refl refl refl
          (λ k i. inr i) (λ j i at. refl) counts
      | inl at ↦
          let part : q ≡ p = eqb-true q p (and-left _ _ at) in
          let offset : u ≡ o = eqb-true u o (and-right (q == p) _ at) in
          subst (λ (x : ℕ). CountsAt given (Dispatch t w x u e a ∷ h) p o) (sym part)
          (subst (λ (y : ℕ). CountsAt given (Dispatch t w p y e a ∷ h) p o) (sym offset)
          (dispatched-at given h p o legal.2 counts t w e a
          (subst (λ (y : ℕ). DispatchIsLawful given h t w p y e a) offset
          (subst (λ (x : ℕ). DispatchIsLawful given h t w x u e a) part legal.0))))
    ]
counts-at given (Success t answer ∷ h) p o legal held =
    let counts = counts-at given h p o legal.2 held in
    let job = out-job h t legal.0.outstanding legal.0.current in
    elim (cases_Bool (is_job_at (Some job.0) p (epoch_of h p) o)) [
      | inl at ↦ succeeded-at given h p o legal.2 counts t answer job.0 legal.0 job.1 job.2 job.3 at
      | inr apart ↦
          let test : is_job_at (job_of h t) p (epoch_of h p) o ≡ false = rw job.1 apart in
          carries given (Success t answer) h p o refl refl test refl (rw test refl) refl (λ k i. i)
          (λ j i at. other-ticket given h t job.0 j legal.2 job.1 i (λ same.
          true-not-false _ (subst (λ (x : Job). is_job_at (Some x) p (epoch_of h p) o ≡ true) (sym same) at) apart))
          counts
    ]
counts-at given (Failure t code ready ∷ h) p o legal held =
    let counts = counts-at given h p o legal.2 held in
    let job = out-job h t legal.0.outstanding legal.0.current in
    elim (cases_Bool (is_job_at (Some job.0) p (epoch_of h p) o)) [
      | inl at ↦ failed-at given h p o legal.2 counts t code ready job.0 job.1 at
      | inr apart ↦
          let test : is_job_at (job_of h t) p (epoch_of h p) o ≡ false = rw job.1 apart in
          carries given (Failure t code ready) h p o refl refl refl refl refl (rw test refl) (λ k i. i)
          (λ j i at. other-ticket given h t job.0 j legal.2 job.1 i (λ same.
          true-not-false _ (subst (λ (x : Job). is_job_at (Some x) p (epoch_of h p) o ≡ true) (sym same) at) apart))
          counts
    ]
counts-at given (Stale t ∷ h) p o legal held =
    carries given (Stale t) h p o refl refl refl refl refl refl (λ k i. i)
    (λ j i at. elim (cases_Bool (t == j.ticket)) [
      | inr other ↦ other
      | inl is ↦
          let of : job_of h t ≡ Some j = subst (λ (u : ℕ). job_of h u ≡ Some j) (sym (eqb-true t j.ticket is))
          (job_of-In given h legal.2 j (open-job h j i)) in
          let current : is_current_ticket h t ≡ true = rw of (at-current h p o j held at) in
          true-not-false _ current legal.0.past
    ]) (counts-at given h p o legal.2 held)
counts-at given (Committed q position text size ∷ h) p o legal held =
    carries given (Committed q position text size) h p o refl refl refl refl refl refl (λ k i. i) (λ j i at. refl)
    (counts-at given h p o legal.2 held)
counts-at given (CommitFailed q position text size ∷ h) p o legal held =
    carries given (CommitFailed q position text size) h p o refl refl refl refl refl refl (λ k i. i) (λ j i at. refl)
    (counts-at given h p o legal.2 held)
counts-at given (Revoke q epoch ∷ h) p o legal held = elim (cases_Bool (q == p)) [
  | inl now ↦ let nothing = rw now at held in cc nothing
  | inr apart ↦ carries given (Revoke q epoch) h p o refl refl refl (rw apart refl) refl refl
      (λ k i. i) (λ j i at. refl) (counts-at given h p o legal.2 (rw apart at held))
]
counts-at given (Lost q epoch ∷ h) p o legal held = elim (cases_Bool (q == p)) [
  | inl now ↦ let nothing = rw now at held in cc nothing
  | inr apart ↦ carries given (Lost q epoch) h p o refl refl refl (rw apart refl) refl refl
      (λ k i. i) (λ j i at. refl) (counts-at given h p o legal.2 (rw apart at held))
]
counts-at given (Crash ∷ h) p o legal held = cc
counts-at given (Tick now ∷ h) p o legal held =
    carries given (Tick now) h p o refl refl refl refl refl refl (λ k i. i) (λ j i at. refl)
    (counts-at given h p o legal.2 held)
counts-at given (Drain ∷ h) p o legal held =
    carries given Drain h p o refl refl refl refl refl refl (λ k i. i) (λ j i at. refl)
    (counts-at given h p o legal.2 held)
counts-at given (Done ∷ h) p o legal held =
    carries given Done h p o refl refl refl refl refl refl (λ k i. i) (λ j i at. refl)
    (counts-at given h p o legal.2 held)
counts-at given (Closed ∷ h) p o legal held =
    carries given Closed h p o refl refl refl refl refl refl (λ k i. i) (λ j i at. refl)
    (counts-at given h p o legal.2 held)

-- ---- how often a record may fail

if_bad-some : (outcome : Outcome) (n m : ℕ) → is_failing (Some outcome) ≡ true → m ≤ n → suc m ≤ if_bad outcome n
if_bad-some (Good answer) n m bad le = cc
if_bad-some (Bad code) n m bad le = omega arith

-- as many attempts fail, one after the other
failing-some : (outcome : ℕ → Outcome) (first m n : ℕ)
    → ((k : ℕ) → first ≤ k → k < first + m → is_failing (Some (outcome k)) ≡ true)
    → m ≤ n → m ≤ failing_from outcome first n
failing-some outcome first zero n bad le = omega arith
failing-some outcome first (suc m) zero bad le = absurd (omega arith)
failing-some outcome first (suc m) (suc n) bad le =
    if_bad-some (outcome first) (failing_from outcome (suc first) n) m (bad first (omega arith) (omega arith))
    (failing-some outcome (suc first) m n (λ k low high. bad k (omega arith) (omega arith)) (omega arith))

-- each failure of a record was that of its next attempt
failures-fail : (given : Given) (h : List Event) (p e o : ℕ) (r : Record) → IsLegal given h
    → record_at given p o ≡ Some r → (k : ℕ) → 1 ≤ k → k ≤ failures_in h p e o
    → is_failing (Some (given.outcome p r k)) ≡ true
failures-fail given [] p e o r legal log k low high = absurd (omega arith)
failures-fail given (Failure t code ready ∷ h) p e o r legal log k low high =
    let job = out-job h t legal.0.outstanding legal.0.current in
    elim (cases_Bool (is_job_at (Some job.0) p e o)) [
      | inr apart ↦
          let test : is_job_at (job_of h t) p e o ≡ false = rw job.1 apart in
          let same : failures_in (Failure t code ready ∷ h) p e o ≡ failures_in h p e o = rw test refl in
          failures-fail given h p e o r legal.2 log k low (omega arith)
      | inl at ↦
          let test : is_job_at (job_of h t) p e o ≡ true = rw job.1 at in
          let more : failures_in (Failure t code ready ∷ h) p e o ≡ failures_in h p e o + 1 = rw test refl in
          elim (cases_lt (failures_in h p e o) k) [
            | inr before ↦ failures-fail given h p e o r legal.2 log k low before
            | inl last ↦
                let is = job-at job.0 p e o at in
                let epoch : job.0.epoch ≡ epoch_of h job.0.part = eqb-true job.0.epoch (epoch_of h job.0.part)
                (and-right (is_held h job.0.part) _ job.3) in
                let attempt : job.0.attempt ≡ failures_of h job.0.part job.0.offset + 1 =
                ((keeps_jobs given h legal.2).working job.0 job.2 job.3).attempt in
                let fails_so : failures_of h job.0.part job.0.offset ≡ failures_in h p e o =
                ap (λ (x : ℕ). failures_in h job.0.part x job.0.offset) (sym epoch)
                ∙ rw (is.0, is.1, is.2) refl in
                let k_is : job.0.attempt ≡ k = omega arith in
                let bad : job_outcome given job.0 ≡ Some (Bad code) = outcome-of given h t job.0 (Bad code) job.1 legal.0.outcome in
                let found : record_at given job.0.part job.0.offset ≡ Some r = rw (is.0, is.2) log in
                let out : job_outcome given job.0 ≡ Some (given.outcome job.0.part r job.0.attempt) = rw found refl in
                let both : Some (given.outcome job.0.part r job.0.attempt) ≡ Some (Bad code) = sym out ∙ bad in
                let at_k : Some (given.outcome p r k) ≡ Some (Bad code) =
                subst (λ (x : ℕ). Some (given.outcome p r x) ≡ Some (Bad code)) k_is
                (subst (λ (x : ℕ). Some (given.outcome x r job.0.attempt) ≡ Some (Bad code)) is.0 both) in
                subst (λ (x : Option Outcome). is_failing x ≡ true) (sym at_k) refl
          ]
    ]
failures-fail given (v ∷ h) p e o r legal log k low high = failures-fail given h p e o r legal.2 log k low high

module _ (given : Given) (h : List Event) (p : ℕ) (r : Record) (legal : IsLegal given h)
    (log : record_at given p r.offset ≡ Some r) where
  pub failures-few : failures_of h p r.offset ≤ failing_attempts given p r
  failures-few = failing-some (given.outcome p r) 1 (failures_of h p r.offset) given.setup.settings.give_up
      (λ k low high. failures-fail given h p (epoch_of h p) r.offset r legal log k low (omega arith))
      (failures-most given h legal p (epoch_of h p) r.offset)

  -- with the attempt that is out and fails
  failing-few : is_held h p ≡ true → failures_of h p r.offset + add_if (is_failing_out given h p r.offset) 0
      ≤ failing_attempts given p r
  failing-few held = elim (cases_Bool (is_failing_out given h p r.offset)) [
    | inr none ↦
        let no_one : add_if (is_failing_out given h p r.offset) 0 ≡ 0 = rw none refl in
        let few = failures-few in omega arith
    | inl some ↦
        let one = In-list_any (λ j. is_job_at (Some j) p (epoch_of h p) r.offset && is_failing (job_outcome given j))
        (open_jobs h) some in
        let at : is_job_at (Some one.0) p (epoch_of h p) r.offset ≡ true = and-left _ _ one.2 in
        let bad : is_failing (job_outcome given one.0) ≡ true =
        and-right (is_job_at (Some one.0) p (epoch_of h p) r.offset) _ one.2 in
        let is = job-at one.0 p (epoch_of h p) r.offset at in
        let current = at-current h p r.offset one.0 held at in
        let attempt : one.0.attempt ≡ failures_of h one.0.part one.0.offset + 1 =
        ((keeps_jobs given h legal).working one.0 one.1 current).attempt in
        let fails_so : failures_of h one.0.part one.0.offset ≡ failures_of h p r.offset = rw (is.0, is.2) refl in
        let most : one.0.attempt ≤ given.setup.settings.give_up = attempts-most given h legal one.0 (open-job h one.0 one.1) in
        let found : record_at given one.0.part one.0.offset ≡ Some r = rw (is.0, is.2) log in
        let out : job_outcome given one.0 ≡ Some (given.outcome one.0.part r one.0.attempt) = rw found refl in
        let next : is_failing (Some (given.outcome p r one.0.attempt)) ≡ true =
        subst (λ (x : ℕ). is_failing (Some (given.outcome x r one.0.attempt)) ≡ true) is.0 (rw out at bad) in
        let more : add_if (is_failing_out given h p r.offset) 0 ≡ 1 = rw some refl in
        let all : failures_of h p r.offset + 1 ≤ failing_attempts given p r =
        failing-some (given.outcome p r) 1 (failures_of h p r.offset + 1) given.setup.settings.give_up
        (λ k low high. elim (cases_lt (failures_of h p r.offset) k) [
          | inr before ↦ failures-fail given h p (epoch_of h p) r.offset r legal log k low before
          | inl last ↦ let k_is : one.0.attempt ≡ k = omega arith in
              subst (λ (x : ℕ). is_failing (Some (given.outcome p r x)) ≡ true) k_is next
        ]) (omega arith) in
        omega arith
  ]

  -- of each record so many dispatches, those that fail, and one success
  pub dispatches-few : is_held h p ≡ true
      → tally (anew p) (dispatches_at p r.offset) h ≤ 1 + failing_attempts given p r
  dispatches-few held =
      let counts : tally (anew p) (dispatches_at p r.offset) h ≤ failures_of h p r.offset
      + add_if (has_succeeded h p (epoch_of h p) r.offset) 0 + add_if (is_out h p r.offset) 0 =
      (counts-at given h p r.offset legal held).dispatched in
      let few = failures-few in
      elim (cases_Bool (is_out h p r.offset)) [
        | inr none ↦
            let no_one : add_if (is_out h p r.offset) 0 ≡ 0 = rw none refl in
            let one : add_if (has_succeeded h p (epoch_of h p) r.offset) 0 ≤ 1 = add_if-one _ in omega arith
        | inl some ↦
            let job = In-list_any (λ j. is_job_at (Some j) p (epoch_of h p) r.offset) (open_jobs h) some in
            let undone = out-unsucceeded given h p r.offset job.0 legal job.1 (at-current h p r.offset job.0 held job.2) job.2 in
            let none : add_if (has_succeeded h p (epoch_of h p) r.offset) 0 ≡ 0 = rw undone refl in
            let one : add_if (is_out h p r.offset) 0 ≤ 1 = add_if-one _ in omega arith
      ]

  pub fails-few : is_held h p ≡ true → tally (anew p) (fails_at given p r.offset) h ≤ failing_attempts given p r
  fails-few held =
      let counts : tally (anew p) (fails_at given p r.offset) h ≤ failures_of h p r.offset
      + add_if (is_failing_out given h p r.offset) 0 = (counts-at given h p r.offset legal held).failed in
      let few = failing-few held in omega arith

  pub succeeds-once : is_held h p ≡ true → tally (anew p) (succeeds_at p r.offset) h ≤ 1
  succeeds-once held =
      let counts : tally (anew p) (succeeds_at p r.offset) h
      ≤ add_if (has_succeeded h p (epoch_of h p) r.offset) 0 = (counts-at given h p r.offset legal held).succeeded in
      let one : add_if (has_succeeded h p (epoch_of h p) r.offset) 0 ≤ 1 = add_if-one _ in omega arith
