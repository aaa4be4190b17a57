-- The jobs that are out, by their tickets.
use Rattle.std.specs.Prelude.{ℕ, ◌≡◌, Bool, ◌==◌, ◌&&◌, List, Option, filter, find, option_map, length, nat_eq}
use Rattle.std.specs.HashMap.{get, hash_map_len}
use Rattle.pc_model.specs.declared.event.Event.{Event}
use Rattle.pc_model.specs.Jobs.{Job, open_jobs}
use Rattle.pc_model.specs.Epochs.{epoch_of}
use Rattle.pc_state.specs.declared.jobs.OpenJob.{OpenJob}
use Rattle.pc_state.specs.declared.jobs.OpenJobs.{OpenJobs}

-- the job of a ticket, if it is out
unfoldable pub open_job : List Event → ℕ → Option Job
open_job h t = find (λ j. j.ticket == t) (open_jobs h)

-- what is kept of a job
abbrev pub kept_job : Job → OpenJob
kept_job j = record { part = j.part; offset = j.offset; epoch = j.epoch; attempt = j.attempt }

-- these are the jobs that are out in the history
pub record AreOpen (h : List Event) (jobs : OpenJobs) : Type 0 where
  pub each : (t : ℕ) → get nat_eq jobs.jobs t ≡ option_map kept_job (open_job h t)
  pub count : hash_map_len jobs.jobs ≡ length (open_jobs h)

-- whether the job is one of the part in the epoch
abbrev pub is_job_of : ℕ → ℕ → Job → Bool
is_job_of p e j = (j.part == p) && (j.epoch == e)

-- how many jobs of the part's present epoch are out
unfoldable pub out_of : List Event → ℕ → ℕ
out_of h p = length (filter (is_job_of p (epoch_of h p)) (open_jobs h))
