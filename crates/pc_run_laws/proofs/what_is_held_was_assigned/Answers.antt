-- Only an assignment makes a part held.
use Rattle.pc_run_laws.proofs.StartLaw.{held-assigned}
use Rattle.pc_run_laws.proofs.what_is_held_was_assigned.Goals as goal

pub returns : goal.returns
returns c = held-assigned
