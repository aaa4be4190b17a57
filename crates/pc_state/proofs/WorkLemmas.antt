-- The job of a result: no other job has its ticket, and no other is out at its offset.
use Rattle.std.proofs.Common.{◌≡◌, ℕ, true, false, not, ◌&&◌, ◌==◌, List, Some, refl, sym, ap, subst, ◌∙◌, eq-eqb}
use Rattle.pc_model.specs.declared.event.Event.{Event}
use Rattle.pc_model.specs.Given.{Given}
use Rattle.pc_model.specs.Jobs.{Job, is_settled, job_of, jobs_of, open_jobs}
use Rattle.pc_model.specs.Epochs.{epoch_of, is_current, is_held}
use Rattle.pc_model.specs.Known.{is_job_at}
use Rattle.pc_model.specs.Lawful.{IsLegal}
use Rattle.pc_model.specs.Next.{ordering_key, job_key}
use Rattle.pc_model.proofs.ListLemmas.{same_number}
use Rattle.pc_laws.specs.Lists.{In}
use Rattle.pc_laws.proofs.Lists.{In-filtered, list_any-In}
use Rattle.pc_laws.proofs.JobsLaw.{has-own-key}
use Rattle.pc_laws.proofs.KeptLaw.{is_kept}
use Rattle.pc_laws.proofs.StaleLaw.{job_of-In}
use Rattle.pc_laws.proofs.SucceededLaw.{job-at}
use Rattle.pc_state.specs.OpenJobs.{is_job_of}
use Rattle.pc_state.specs.State.{is_out}
use Rattle.pc_laws.proofs.TicketLaw.{one-job}
use Rattle.pc_state.proofs.AtWork.{IsAtWork, open-at, open-record}

module _ (given : Given) (h : List Event) (t p o : ℕ) (legal : IsLegal given h)
    (work : IsAtWork h t p o) where
  -- it is that of its ticket
  pub work-job : job_of h t ≡ Some work.job
  work-job = subst (λ (u : ℕ). job_of h u ≡ Some work.job) work.ticket
      (job_of-In given h legal work.job
      (In-filtered (λ (k : Job). not (is_settled h k.ticket)) work.job (jobs_of h) work.out).0)

  -- and no other job has the ticket
  pub work-only : (j : Job) → In j (open_jobs h) → j.ticket ≡ t → j ≡ work.job
  work-only j i ticket = one-job given h legal j work.job
      (In-filtered (λ (k : Job). not (is_settled h k.ticket)) j (jobs_of h) i).0
      (In-filtered (λ (k : Job). not (is_settled h k.ticket)) work.job (jobs_of h) work.out).0
      (ticket ∙ sym work.ticket)

  -- so of another part none has it
  pub work-other_part : (q : ℕ) → (p == q) ≡ false → (j : Job) → In j (open_jobs h) → j.ticket ≡ t
      → is_job_of q (epoch_of h q) j ≡ false
  work-other_part q apart j i ticket =
      let same : j.part ≡ p = ap (λ (k : Job). k.part) (work-only j i ticket) ∙ work.part in
      rw (ap (λ (u : ℕ). u == q) same ∙ apart) refl

  -- it is at the offset
  pub work-at : is_job_at (Some work.job) p (epoch_of h p) o ≡ true
  work-at = rw (
    work.part,
    work.epoch,
    work.offset,
    same_number p,
    same_number (epoch_of h p),
    same_number o,
  ) refl

  pub work-out : is_out h p o ≡ true
  unfolding is_out
  work-out = list_any-In (λ (j : Job). is_job_at (Some j) p (epoch_of h p) o) work.job (open_jobs h)
      work.out work-at

  -- a job at the offset in the present epoch is current, and has the key of the record there
  at-current : (j : Job) → is_job_at (Some j) p (epoch_of h p) o ≡ true → is_current h j ≡ true
  at-current j at = let is = job-at j p (epoch_of h p) o at in
      subst (λ (q : ℕ). (is_held h q && (j.epoch == epoch_of h q)) ≡ true) (sym is.0)
      (rw (work.held, eq-eqb j.epoch (epoch_of h p) is.1) refl)

  at-key : (j : Job) → is_job_at (Some j) p (epoch_of h p) o ≡ true → job_key given j
      ≡ Some (ordering_key given.setup.settings.order p (open-at given h t p o legal work).entry)
  at-key j at = let is = job-at j p (epoch_of h p) o at in
      rw (is.0, is.2, open-record given h p o legal (open-at given h t p o legal work)) refl

  -- so no other is out there
  pub at-only : (j : Job) → In j (open_jobs h) → is_job_at (Some j) p (epoch_of h p) o ≡ true
      → j.ticket ≡ t
  at-only j i at =
      let key = ordering_key given.setup.settings.order p (open-at given h t p o legal work).entry in
      (is_kept given h legal).jobs.alone j work.job key i work.out (at-current j at)
      (at-current work.job work-at) (has-own-key given j key (at-key j at))
      (has-own-key given work.job key (at-key work.job work-at)) ∙ work.ticket
