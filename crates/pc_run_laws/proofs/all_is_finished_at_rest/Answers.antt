-- The first that is left would have failed as often as it may.
use Rattle.pc_run_laws.proofs.FinishedLaw.{all-finished, none-unfinished}
use Rattle.pc_run_laws.proofs.all_is_finished_at_rest.Goals as goal

pub returns-clause-unfinished : goal.returns-clause-unfinished
returns-clause-unfinished c = none-unfinished

pub returns-clause-finished : goal.returns-clause-finished
returns-clause-finished c = all-finished
