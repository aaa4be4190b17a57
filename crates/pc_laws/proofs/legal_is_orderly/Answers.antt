-- By induction on the history.
use Rattle.pc_laws.proofs.OrderlyLaw.{is_orderly}
use Rattle.pc_laws.proofs.legal_is_orderly.Goals as goal

pub returns : goal.returns
returns c = is_orderly
