-- No record has more attempts, or fails more often, than it may.
use Rattle.std.proofs.Common.{◌≡◌, ℕ, ◌+◌, ◌≤◌, ◌<◌, true, List, [], ◌∷◌, Some, refl, ap, sym, ◌∙◌, arith, inl, inr}
use Rattle.std.proofs.lemmas.Bool.{cases_Bool, eqb-true, ltb-true}
use Rattle.pc_model.specs.declared.event.Event.{Event}
use Rattle.pc_model.specs.declared.event.Event.TheVariants.{Dispatch, Failure}
use Rattle.pc_model.specs.Given.{Given}
use Rattle.pc_model.specs.Jobs.{Job, jobs_of}
use Rattle.pc_model.specs.Epochs.{epoch_of, is_held, is_current}
use Rattle.pc_model.specs.Known.{is_job_at}
use Rattle.pc_model.specs.Lawful.{IsLegal}
use Rattle.pc_model.specs.Next.{is_eligible_record}
use Rattle.pc_model.specs.Retry.{failures_in, failures_of}
use Rattle.pc_model.specs.Record.{Record}
use Rattle.pc_laws.specs.Lists.{In}
use Rattle.pc_laws.proofs.Lists.{and-left, and-right}
use Rattle.pc_laws.proofs.JobsLaw.{keeps_jobs, open-job, out-job}
use Rattle.pc_laws.proofs.OrderlyLaw.{next_record-In}
use Rattle.pc_laws.proofs.SucceededLaw.{job-at}

pub eligible-attempts : (given : Given) (h : List Event) (p : ℕ) (r : Record)
    → is_eligible_record given h p r ≡ true → failures_of h p r.offset < given.setup.settings.give_up
unfolding is_eligible_record
eligible-attempts given h p r e = ltb-true _ _ (and-right _ _ (and-left _ _ (and-left _ _ e)))

-- a job is at most the last attempt
pub attempts-most : (given : Given) (h : List Event) → IsLegal given h → (j : Job) → In j (jobs_of h)
    → j.attempt ≤ given.setup.settings.give_up
attempts-most given [] legal j i = absurd i
attempts-most given (Dispatch t w p o e a ∷ h) legal j (inl same) =
    let next = next_record-In given h p o legal.0.record_is in
    let lt : failures_of h p next.1.0.offset < given.setup.settings.give_up =
    eligible-attempts given h p next.1.0 next.1.3 in
    let at : next.1.0.offset ≡ o = next.1.2 in
    let fails : failures_of h p next.1.0.offset ≡ failures_of h p o = ap (failures_of h p) at in
    let is : a ≡ failures_of h p o + 1 = legal.0.attempt_is in
    let of : j.attempt ≡ a = ap (λ (k : Job). k.attempt) same in omega arith
attempts-most given (Dispatch t w p o e a ∷ h) legal j (inr i) = attempts-most given h legal.2 j i
attempts-most given (v ∷ h) legal j i = attempts-most given h legal.2 j i

-- a failure of a current job is one more of its record
at-failure : (given : Given) (h : List Event) (j : Job) (p e o : ℕ)
    → (j.part ≡ p) × (j.epoch ≡ e) × (j.offset ≡ o) → is_current h j ≡ true
    → j.attempt ≡ failures_of h j.part j.offset + 1 → j.attempt ≤ given.setup.settings.give_up
    → failures_in h p e o + 1 ≤ given.setup.settings.give_up
at-failure given h j p e o of current attempt most =
    let now : j.epoch ≡ epoch_of h j.part = eqb-true j.epoch (epoch_of h j.part)
    (and-right (is_held h j.part) _ current) in
    let same : failures_of h j.part j.offset ≡ failures_in h p e o =
    ap (λ (x : ℕ). failures_in h j.part x j.offset) (sym now)
    ∙ rw (of.0, of.1, of.2) refl in
    omega arith

-- and no record fails more often
pub failures-most : (given : Given) (h : List Event) → IsLegal given h → (p e o : ℕ)
    → failures_in h p e o ≤ given.setup.settings.give_up
failures-most given [] legal p e o = omega arith
failures-most given (Failure t code ready ∷ h) legal p e o =
    let job = out-job h t legal.0.outstanding legal.0.current in
    elim (cases_Bool (is_job_at (Some job.0) p e o)) [
      | inr apart ↦ rw (job.1, apart) (failures-most given h legal.2 p e o)
      | inl at ↦
          let of = job-at job.0 p e o at in
          let working = (keeps_jobs given h legal.2).working job.0 job.2 job.3 in
          let most : job.0.attempt ≤ given.setup.settings.give_up =
          attempts-most given h legal.2 job.0 (open-job h job.0 job.2) in
          rw (job.1, at) (at-failure given h job.0 p e o of job.3 working.attempt most)
    ]
failures-most given (v ∷ h) legal p e o = failures-most given h legal.2 p e o
