-- By induction on the history.
use Rattle.pc_laws.proofs.SucceededLaw.{unsucceeded-later}
use Rattle.pc_laws.proofs.no_epoch_succeeds_early.Goals as goal

pub returns : goal.returns
returns c = unsucceeded-later
