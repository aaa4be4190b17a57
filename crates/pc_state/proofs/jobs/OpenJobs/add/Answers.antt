use Rattle.pc_state.proofs.OpenJobsLemmas.{AreOpen-dispatch}
use Rattle.pc_state.proofs.jobs.OpenJobs.add.Goals as goal

pub returns-clause-added : goal.returns-clause-added
returns-clause-added c = λ h worker are fresh none. AreOpen-dispatch h c.args.self.now
    (record { jobs = c.insert.new.self }) c.args.ticket worker c.args.job
    c.in_ok-insert.ensures.updates.0 c.in_ok-insert.field-0 c.in_ok-insert.ensures.old
    c.in_ok-insert.ensures.len are fresh none
