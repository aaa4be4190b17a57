-- Zeros are the counts before the first event.
use Rattle.std.proofs.Common.{ℕ, List, length, subst, sym}
use Rattle.std.specs.Prelude.{[]}
use Rattle.pc_pool.specs.Jobs.{AreJobs}
use Rattle.pc_pool.proofs.JobLemmas.{jobs-none}
use Rattle.pc_pool.proofs.jobs.count_jobs.Goals as goal

pub loop-event-init : goal.loop-event-init
loop-event-init c = subst (λ (jobs : List ℕ). AreJobs (length c.args.jobs.now) [] jobs)
    (sym c.requires) (jobs-none (length c.args.jobs.now))
