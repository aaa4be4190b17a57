-- By the kinds of event.
use Rattle.pc_laws.proofs.PositionLaw.{position_of-le}
use Rattle.pc_laws.proofs.position_never_falls.Goals as goal

pub returns : goal.returns
returns c = position_of-le
