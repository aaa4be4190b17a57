-- How many jobs each worker was given.
use Rattle.std.specs.Prelude.{ℕ, ◌≡◌, ◌==◌, List, length, filter, map}
use Rattle.std.specs.List.{range_with_len}
use Rattle.pc_model.specs.declared.event.Event.{Event}
use Rattle.pc_drain.specs.Counts.{dispatch_workers}

-- how many jobs a worker was given
abbrev pub jobs_of : List Event → ℕ → ℕ
jobs_of h worker = length (filter (λ w. w == worker) (dispatch_workers h))

-- of each of so many workers
abbrev pub AreJobs : ℕ → List Event → List ℕ → Type 0
AreJobs workers h jobs = jobs ≡ map (jobs_of h) (range_with_len 0 workers)
