-- By induction on the history.
use Rattle.pc_laws.proofs.PositionLaw.{positions_rise}
use Rattle.pc_laws.proofs.positions_rise.Goals as goal

pub returns : goal.returns
returns c = positions_rise
