-- By induction on the history.
use Rattle.pc_laws.proofs.KeptLaw.{is_kept}
use Rattle.pc_laws.proofs.legal_is_kept.Goals as goal

pub returns : goal.returns
returns c = is_kept
