-- By induction on the history.
use Rattle.pc_laws.proofs.FirstLaw.{first_of_its_key}
use Rattle.pc_laws.proofs.first_of_its_key.Goals as goal

pub returns : goal.returns
returns c = first_of_its_key
