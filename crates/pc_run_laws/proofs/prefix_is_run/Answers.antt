-- One event less.
use Rattle.pc_run_laws.proofs.FailedLaw.{prefix_is_run}
use Rattle.pc_run_laws.proofs.prefix_is_run.Goals as goal

pub returns : goal.returns
returns c = prefix_is_run
