-- What the calls of a state speak of: the records that a poll may take, the job of a dispatch, the
-- results that are expected, and the job that one is of.
use Rattle.std.specs.Prelude.{ℕ, ◌+◌, ◌≡◌, pos, not, true, ◌||◌, List, [], take, filter, Some, None, option_map, unwrap_or}
use Rattle.pc_model.specs.declared.event.Event.{Event}
use Rattle.pc_model.specs.Record.{Record}
use Rattle.pc_model.specs.Given.{Given, record_at}
use Rattle.pc_model.specs.Jobs.{Job, dispatch_count, job_of, open_jobs}
use Rattle.pc_model.specs.Epochs.{epoch_of, is_held}
use Rattle.pc_model.specs.Known.{unpolled_records}
use Rattle.pc_model.specs.Pressure.{is_blocked, is_upto_high}
use Rattle.pc_model.specs.Retry.{failures_of}
use Rattle.pc_laws.specs.Lists.{In}
use Rattle.pc_task.specs.Jobs.{PlainJob}
use Rattle.pc_state.specs.declared.jobs.OpenJob.{OpenJob}
use Rattle.pc_state.specs.OpenJobs.{kept_job, open_job}

-- the records of the part that a poll may take: those that were not polled, under pressure only
-- those up to its high
unfoldable pub pollable_records : Given → List Event → ℕ → List Record
pollable_records given h p =
    filter (λ r. not (is_blocked given h p) || is_upto_high given h p r.offset)
    (unpolled_records given h p)

-- the next of them, at most this many
abbrev pub next_records : Given → List Event → ℕ → ℕ → List Record
next_records given h p max = take max (pollable_records given h p)

-- a record that no log has
abbrev pub no_record : Record
no_record = record { offset = 0; time = pos 0; key = None; value = None; headers = [] }

-- the job of a record that is dispatched
abbrev pub job_to_do : Given → List Event → ℕ → ℕ → ℕ → PlainJob
job_to_do given h worker p o = record {
  ticket = dispatch_count h + 1;
  worker = worker;
  part = p;
  epoch = epoch_of h p;
  attempt = failures_of h p o + 1;
  entry = unwrap_or (record_at given p o) no_record;
  rules = given.setup.settings.rules;
}

-- the job as it is kept where it is out
abbrev pub kept_of : PlainJob → OpenJob
kept_of job = record
    { part = job.part; offset = job.entry.offset; epoch = job.epoch; attempt = job.attempt }

-- The result of this job is expected: the job that is out under its ticket has its part,
-- offset, epoch and attempt, the log has its record, and its rules are those of the setup.
pub record IsExpected (given : Given) (h : List Event) (job : PlainJob) : Type 0 where
  pub out : option_map kept_job (open_job h job.ticket) ≡ Some (kept_of job)
  pub entry : record_at given job.part job.entry.offset ≡ Some job.entry
  pub rules : job.rules ≡ given.setup.settings.rules

-- the job of a ticket, which is out and current, at an offset of the part
pub record IsAtWork (h : List Event) (t p o : ℕ) : Type 0 where
  pub job : Job
  pub is : job_of h t ≡ Some job
  pub out : In job (open_jobs h)
  pub ticket : job.ticket ≡ t
  pub part : job.part ≡ p
  pub offset : job.offset ≡ o
  pub epoch : job.epoch ≡ epoch_of h p
  pub held : is_held h p ≡ true
