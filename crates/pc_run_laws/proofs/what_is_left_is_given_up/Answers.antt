-- It is the least open record of its part.
use Rattle.pc_run_laws.proofs.RestLaw.{named-is-spent}
use Rattle.pc_run_laws.proofs.what_is_left_is_given_up.Goals as goal

pub returns : goal.returns
returns c = named-is-spent
