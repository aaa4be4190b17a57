-- By what is left of the part.
use Rattle.pc_laws.proofs.StallLaw.{goes_on}
use Rattle.pc_laws.proofs.never_stalls.Goals as goal

pub returns : goal.returns
returns c = goes_on
