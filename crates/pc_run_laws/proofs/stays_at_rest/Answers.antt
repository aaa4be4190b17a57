-- By what stands from its drain on.
use Rattle.pc_run_laws.proofs.RestLaw.{stays_at_rest}
use Rattle.pc_run_laws.proofs.stays_at_rest.Goals as goal

pub returns : goal.returns
returns c = stays_at_rest
