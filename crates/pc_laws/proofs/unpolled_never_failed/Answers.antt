-- By induction on the history.
use Rattle.pc_laws.proofs.FailedLaw.{unpolled-unfailed, unfailed-moved}
use Rattle.pc_laws.proofs.unpolled_never_failed.Goals as goal

pub returns-clause-unpolled : goal.returns-clause-unpolled
returns-clause-unpolled c = unpolled-unfailed

pub returns-clause-begun : goal.returns-clause-begun
returns-clause-begun c = unfailed-moved
