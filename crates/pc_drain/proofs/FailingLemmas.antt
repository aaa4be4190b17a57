-- A result of a failure that is expected.
use Rattle.std.proofs.Common.{◌≡◌, ◌∙◌, ℕ, Bool, true, false, ◌&&◌, ◌==◌, inl, inr, List, ◌∷◌, Option, Some, None, refl, ap, sym, subst}
use Rattle.std.specs.Prelude.{find, if◌then◌else◌, option_map}
use Rattle.std.specs.List.{list_any}
use Rattle.std.proofs.lemmas.Bool.{cases_Bool}
use Rattle.pc_model.specs.declared.event.Event.{Event}
use Rattle.pc_model.specs.declared.event.Event.TheVariants.{Tick}
use Rattle.pc_model.specs.declared.outcome.Outcome.{Outcome}
use Rattle.pc_model.specs.declared.outcome.Outcome.TheVariants.{Bad}
use Rattle.pc_model.specs.Given.{Given, records_of}
use Rattle.pc_model.specs.Jobs.{Job, is_settled, job_of, open_jobs}
use Rattle.pc_model.specs.Epochs.{epoch_of, is_held}
use Rattle.pc_model.specs.Outcomes.{job_outcome, ticket_outcome}
use Rattle.pc_model.specs.Pace.{is_failed_result, is_failing}
use Rattle.pc_laws.proofs.Lists.{In, In-find, list_any-In}
use Rattle.pc_laws.proofs.Passing.{option_cases}
use Rattle.pc_laws.proofs.TicketLaw.{find-open_jobs}
use Rattle.pc_state.specs.declared.jobs.OpenJob.{OpenJob}
use Rattle.pc_state.specs.Calls.{IsExpected, kept_of}
use Rattle.pc_state.specs.OpenJobs.{kept_job, open_job}
use Rattle.pc_task.specs.Jobs.{PlainJob}
use Rattle.pc_engine.specs.Effect.{settle_event}
use Rattle.pc_drain.specs.Turn.{outcome_for}

unsettled-job : (o : Option Job) (settled : Bool) (j : Job) → (if settled then None else o) ≡ Some j
    → o ≡ Some j
unsettled-job o true j is = cc
unsettled-job o false j is = is

-- the job of a ticket that is out, as it is kept
out-job : (h : List Event) (t : ℕ) (kept : OpenJob) → option_map kept_job (open_job h t) ≡ Some kept
    → (j : Job) × (job_of h t ≡ Some j) × (kept_job j ≡ kept) × In j (open_jobs h)
unfolding open_job
out-job h t kept out = elim (option_cases (open_job h t)) [
  | inl none ↦ let nothing = rw none at out in cc nothing
  | inr some ↦
      let is : Some (kept_job some.0) ≡ Some kept = ap (option_map kept_job) (sym some.1) ∙ out in (
        some.0,
        unsettled-job (job_of h t) (is_settled h t) some.0 (sym (find-open_jobs h t) ∙ some.1),
        cc,
        (In-find (λ (j : Job). j.ticket == t) some.0 (open_jobs h) some.1).0,
      )
]

module _ (given : Given) (h : List Event) (job : PlainJob) (code : ℕ)
    (expected : IsExpected given h job) (due : outcome_for given job ≡ Bad code) where
  out : (j : Job) × (job_of h job.ticket ≡ Some j) × (kept_job j ≡ kept_of job)
      × In j (open_jobs h)
  out = out-job h job.ticket (kept_of job) expected.out

  -- its outcome is a failure
  job-fails : job_outcome given out.0 ≡ Some (Bad code)
  job-fails = ap (λ (k : OpenJob). option_map (λ r. given.outcome k.part r k.attempt)
      (find (λ r. r.offset == k.offset) (records_of given k.part))) out.2
      ∙ rw expected.entry (ap (λ (o : Outcome). Some o) due)

  pub one-fails : list_any (λ j. is_failing (job_outcome given j)) (open_jobs h) ≡ true
  one-fails = list_any-In (λ (j : Job). is_failing (job_outcome given j)) out.0 (open_jobs h) out.3
      (ap is_failing job-fails)

  -- also after a tick
  ticket-fails : (now : ℕ) → ticket_outcome given (Tick now ∷ h) job.ticket ≡ Some (Bad code)
  unfolding ticket_outcome
  ticket-fails now = rw out.1 job-fails

  pub result-fails : (now : ℕ) → is_failed_result given (Tick now ∷ h)
      (settle_event given (Tick now ∷ h) job (Bad code)) ≡ true
  result-fails now =
      elim (cases_Bool (is_held h job.part && (job.epoch == epoch_of h job.part))) [
        | inl current ↦ rw current refl
        | inr past ↦ rw past (ap is_failing (ticket-fails now))
      ]
