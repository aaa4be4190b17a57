-- What one more event changes of the jobs that are out.
use Rattle.std.proofs.Common.{◌≡◌, ℕ, false, not, ◌==◌, List, ◌∷◌, Some, refl, sym, ◌∙◌}
use Rattle.std.specs.Prelude.{filter, if◌then◌else◌}
use Rattle.pc_model.specs.declared.event.Event.{Event}
use Rattle.pc_model.specs.declared.event.Event.TheVariants.{Dispatch}
use Rattle.pc_model.specs.Jobs.{Job, jobs_of, job_of, is_settled, open_jobs, settles}
use Rattle.pc_model.proofs.ListLemmas.{filter-filter, filter-same, not-or}

module _ (h : List Event) (t worker p o epoch attempt : ℕ) where
  jobs_of-dispatch : jobs_of (Dispatch t worker p o epoch attempt ∷ h)
      ≡ record {
        ticket = t;
        worker = worker;
        part = p;
        offset = o;
        epoch = epoch;
        attempt =
            attempt;
      } ∷ jobs_of h
  jobs_of-dispatch = refl

  -- a ticket that has no result yet is out
  pub open_jobs-dispatch : is_settled h t ≡ false → open_jobs
      (Dispatch t worker p o epoch attempt ∷ h)
      ≡ record {
        ticket = t;
        worker = worker;
        part = p;
        offset = o;
        epoch = epoch;
        attempt =
            attempt;
      } ∷ open_jobs h
  open_jobs-dispatch fresh = simp fresh

  job_of-dispatch : (u : ℕ) → job_of (Dispatch t worker p o epoch attempt ∷ h) u
      ≡ (if t == u then Some (record
      { ticket = t; worker = worker; part = p; offset = o; epoch = epoch; attempt = attempt })
      else job_of h u)
  job_of-dispatch u = refl

-- a result takes its ticket from those that are out
pub open_jobs-settled : (v : Event) (h : List Event) → jobs_of (v ∷ h) ≡ jobs_of h →
    open_jobs (v ∷ h) ≡ filter (λ j. not (settles v j.ticket)) (open_jobs h)
open_jobs-settled v h same =
    rw same (filter-same _ _ (λ (j : Job). not-or (settles v j.ticket) (is_settled h j.ticket))
    (jobs_of h)
    ∙ sym (filter-filter (λ j. not (settles v j.ticket)) (λ j. not (is_settled h j.ticket))
    (jobs_of h)))
