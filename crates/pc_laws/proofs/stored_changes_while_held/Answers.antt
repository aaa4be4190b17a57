-- By the kinds of events.
use Rattle.pc_laws.proofs.HeldLaw.{stored-stays}
use Rattle.pc_laws.proofs.stored_changes_while_held.Goals as goal

pub returns : goal.returns
returns c = stored-stays
