-- Which results are expected: those of a job that is out, of the record in the logs.
use Rattle.std.proofs.Common.{◌≡◌, ℕ, Bool, true, false, not, ◌==◌, List, Option, Some, None, ap, sym, ◌∙◌}
use Rattle.std.specs.Prelude.{IsTrue, ◌↔◌}
use Rattle.std.specs.Option.{option_eq, option_map}
use Rattle.std.proofs.lemmas.Bool.{eqb-true}
use Rattle.pc_model.specs.declared.event.Event.{Event}
use Rattle.pc_model.specs.Record.{Record}
use Rattle.pc_model.specs.declared.outcome.Rules.{Rules}
use Rattle.pc_model.specs.Given.{Given, record_at}
use Rattle.pc_laws.proofs.Lists.{and-left, and-right, not-false}
use Rattle.pc_state.specs.contracts.jobs.OpenJobPartialEq.TheImpl as job_eq
use Rattle.pc_state.specs.declared.jobs.OpenJob.{OpenJob}
use Rattle.pc_state.specs.declared.state.State.{State}
use Rattle.pc_task.specs.Jobs.{PlainJob}
use Rattle.pc_state.specs.Calls.{IsExpected, kept_of}
use Rattle.pc_state.specs.OpenJobs.{kept_job, open_job}
use Rattle.pc_state.specs.State.{Knows}

-- a result of the job that is out, by the record that the log has
pub expected-found : (given : Given) (h : List Event) (s : State) (job : PlainJob) (entry : Record)
    (rules : Rules) (out : Option OpenJob) (b : Bool) → Knows given h s
    → out ≡ option_map kept_job (open_job h job.ticket) → out ≡ Some (kept_of job)
    → Some entry ≡ record_at given job.part job.entry.offset → rules ≡ s.setup.now.settings.rules
    → (IsTrue b ↔ ((job.entry ≡ entry) × (job.rules ≡ rules))) → (IsTrue b ↔ IsExpected given h job)
expected-found given h s job entry rules out b knows out_is kept found rules_is is = (
  λ t. record {
    out = sym out_is ∙ kept;
    entry = sym found ∙ ap (λ (r : Record). Some r) (sym (is.0 t).0);
    rules = (is.0 t).1 ∙ rules_is ∙ ap (λ setup. setup.settings.rules) (sym knows.setup);
  },
  λ e.
      let same : Some job.entry ≡ Some entry = sym e.entry ∙ sym found in
      is.1 (cc, e.rules ∙ ap (λ setup. setup.settings.rules) knows.setup ∙ sym rules_is),
)

-- nor any where the log has none
pub expected-lost : (given : Given) (h : List Event) (job : PlainJob)
    → None ≡ record_at given job.part job.entry.offset → (IsTrue false ↔ IsExpected given h job)
expected-lost given h job lost = (
  λ t. cc,
  λ e.
      let nothing : ◌≡◌ {A = Option Record} None (Some job.entry) = lost ∙ e.entry in cc,
)

-- jobs that are the same by the test are the same
job-is : (a b : OpenJob) → a.part ≡ b.part → a.offset ≡ b.offset → a.epoch ≡ b.epoch
    → a.attempt ≡ b.attempt → a ≡ b
job-is a b part offset epoch attempt =
    ap (λ (n : ℕ). record a { part = n }) part
    ∙ ap (λ (n : ℕ). record a { part = b.part; offset = n }) offset
    ∙ ap (λ (n : ℕ). record b { epoch = n; attempt = a.attempt }) epoch
    ∙ ap (λ (n : ℕ). record b { attempt = n }) attempt

job-same : (a b : OpenJob) → job_eq.eq-value.it a b ≡ true → a ≡ b
job-same a b e =
    let rest = and-right (a.part == b.part) _ e in
    let last = and-right (a.offset == b.offset) _ rest in
    job-is a b (eqb-true a.part b.part (and-left (a.part == b.part) _ e))
    (eqb-true a.offset b.offset (and-left (a.offset == b.offset) _ rest))
    (eqb-true a.epoch b.epoch (and-left (a.epoch == b.epoch) _ last))
    (eqb-true a.attempt b.attempt (and-right (a.epoch == b.epoch) _ last))

pub out-same : (out : Option OpenJob) (job : OpenJob) (b : Bool) → b ≡ false
    → b ≡ not (option_eq job_eq.eq-value.it out (Some job)) → out ≡ Some job
out-same None job b apart is = let nothing : true ≡ false = sym is ∙ apart in cc nothing
out-same (Some j) job b apart is =
    let same : job_eq.eq-value.it j job ≡ true = not-false _ (sym is ∙ apart) in
    ap (λ (k : OpenJob). Some k) (job-same j job same)
