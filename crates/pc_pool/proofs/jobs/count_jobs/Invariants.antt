-- What the events so far say of the jobs.
use Rattle.std.proofs.Common.{take, length, reverse}
use Rattle.pc_pool.specs.Jobs.{AreJobs}
use Rattle.pc_pool.proofs.jobs.count_jobs.Given as goal

abbrev pub invariant-loop-event : goal.invariant-loop-event
invariant-loop-event l = AreJobs (length l.initial.jobs)
    (reverse (take l.event-index (reverse l.journal.events))) l.jobs
