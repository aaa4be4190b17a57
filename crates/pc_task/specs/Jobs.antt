-- A job as a plain value, and the outcome that its function gives.
use Rattle.std.specs.Prelude.{ℕ}
use Rattle.pc_model.specs.declared.outcome.Outcome.{Outcome}
use Rattle.pc_model.specs.declared.outcome.Rules.{Rules}
use Rattle.pc_model.specs.Record.{Record}
use Rattle.pc_batch.specs.Record.{plain}
use Rattle.pc_task.specs.declared.job.Job.{Job}

-- what comes of the attempts of a function: by the rules, the part, the record, and the number of the
-- attempt, counted from 1
abbrev pub Outcomes : Type 0
Outcomes = Rules → ℕ → Record → ℕ → Outcome

-- a job without its function, and without where its record and its rules lie in memory
pub record PlainJob : Type 0 where
  pub ticket : ℕ
  pub worker : ℕ
  pub part : ℕ
  pub epoch : ℕ
  pub attempt : ℕ
  pub entry : Record
  pub rules : Rules

abbrev pub plain_job : {T : Type 0} → Job T → PlainJob
plain_job job = record {
  ticket = job.ticket;
  worker = job.worker;
  part = job.part;
  epoch = job.epoch;
  attempt = job.attempt;
  entry = plain job.entry;
  rules = job.rules.now;
}

-- the outcome that a function with these outcomes gives for the job
abbrev pub due_outcome : Outcomes → PlainJob → Outcome
due_outcome outcomes job = outcomes job.rules job.part job.entry job.attempt
