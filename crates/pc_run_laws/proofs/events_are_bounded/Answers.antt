-- Each event is of one of eleven kinds.
use Rattle.pc_run_laws.proofs.BoundLaw.{is_bounded}
use Rattle.pc_run_laws.proofs.events_are_bounded.Goals as goal

pub returns : goal.returns
returns c = is_bounded
