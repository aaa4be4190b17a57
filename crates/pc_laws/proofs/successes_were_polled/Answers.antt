-- By induction on the history.
use Rattle.pc_laws.proofs.SucceededLaw.{succeeded-polled}
use Rattle.pc_laws.proofs.successes_were_polled.Goals as goal

pub returns : goal.returns
returns c = succeeded-polled
