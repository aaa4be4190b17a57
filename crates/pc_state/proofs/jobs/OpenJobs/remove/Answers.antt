use Rattle.pc_state.proofs.OpenJobsLemmas.{AreOpen-settled}
use Rattle.pc_state.proofs.jobs.OpenJobs.remove.Goals as goal

pub returns : goal.returns
returns c = λ h event are some same settled less. AreOpen-settled h event c.args.self.now
    (record { jobs = c.remove.new.self }) c.args.ticket c.remove.ensures.updates.0 c.remove.result
    c.remove.ensures.value c.remove.ensures.len are some same settled less
