-- The runs that are kept are those of the bits.
use Rattle.std.proofs.Common.{rules}
use Rattle.pc_model.proofs.BitsLemmas.{zero_runs-view}
use Rattle.pc_model.proofs.bits.Bits.runs.Goals as goal

pub returns : goal.returns
returns c = rw (← c.self.view_is, zero_runs-view _ _ c.self.invariant) (search rules)
