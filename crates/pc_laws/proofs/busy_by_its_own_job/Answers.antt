-- A current job of the key is neither before the record nor after it.
use Rattle.pc_laws.proofs.FirstLaw.{busy-out}
use Rattle.pc_laws.proofs.busy_by_its_own_job.Goals as goal

pub returns : goal.returns
returns c = busy-out
