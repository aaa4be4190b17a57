-- Event by event.
use Rattle.pc_run_laws.proofs.FailedLaw.{failed-caused}
use Rattle.pc_run_laws.proofs.failed_commits_have_their_cause.Goals as goal

pub returns : goal.returns
returns c = failed-caused
