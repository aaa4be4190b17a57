-- The jobs in hand: those that were taken and not ended.
use Rattle.std.specs.Prelude.{ℕ, ◌<◌, ◌≡◌, ◌==◌, false, not, List, find, filter, Option, None, option_map, nat_eq}
use Rattle.std.specs.HashMap.{get}
use Rattle.std.specs.List.{AllByRecursion}
use Rattle.pc_model.specs.declared.event.Event.{Event}
use Rattle.pc_model.specs.Given.{Given}
use Rattle.pc_model.specs.Jobs.{dispatch_count, is_settled}
use Rattle.pc_task.specs.Jobs.{PlainJob, plain_job}
use Rattle.pc_state.specs.Calls.{IsExpected}
use Rattle.pc_state.specs.OpenJobs.{open_job}
use Rattle.pc_play.specs.declared.hand.Hand.{Hand}

-- the job with a ticket, if there is one
abbrev pub job_with : ℕ → List PlainJob → Option PlainJob
job_with t jobs = find (λ j. j.ticket == t) jobs

-- the jobs with other tickets
abbrev pub without : ℕ → List PlainJob → List PlainJob
without t jobs = filter (λ j. not (j.ticket == t)) jobs

-- the jobs by their tickets
abbrev pub AreIn : Hand → List PlainJob → Type 0
AreIn hand jobs = (t : ℕ) → option_map plain_job (get nat_eq hand.jobs t) ≡ job_with t jobs

-- no ticket above the last was used
abbrev pub IsFresh : List Event → Type 0
IsFresh h = (t : ℕ) → dispatch_count h < t → (is_settled h t ≡ false) × (open_job h t ≡ None)

-- these jobs are in hand, and the engine expects the result of each of them
pub record HasInHand (given : Given) (h : List Event) (jobs : List PlainJob) (hand : Hand)
    : Type 0 where
  pub each : AreIn hand jobs
  pub expected : AllByRecursion (IsExpected given h) jobs
  pub fresh : IsFresh h
