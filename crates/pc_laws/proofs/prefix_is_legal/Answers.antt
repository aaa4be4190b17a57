-- By induction on the newest events.
use Rattle.pc_laws.proofs.KeptLaw.{prefix_is_legal}
use Rattle.pc_laws.proofs.prefix_is_legal.Goals as goal

pub returns : goal.returns
returns c = prefix_is_legal
