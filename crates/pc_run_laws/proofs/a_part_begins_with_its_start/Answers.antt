-- Nothing else may be stored before it.
use Rattle.pc_run_laws.proofs.StartLaw.{begins-with-start}
use Rattle.pc_run_laws.proofs.a_part_begins_with_its_start.Goals as goal

pub returns : goal.returns
returns c = begins-with-start
