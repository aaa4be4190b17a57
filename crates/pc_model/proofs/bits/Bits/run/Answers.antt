-- The runs that are kept are those of the bits.
use Rattle.std.proofs.Common.{◌∙◌}
use Rattle.pc_model.proofs.BitsLemmas.{item-copied, zero_runs-view}
use Rattle.pc_model.proofs.bits.Bits.run.Goals as goal

pub returns : goal.returns
returns c = rw (← c.self.view_is, zero_runs-view _ _ c.self.invariant)
    (c.copied.ensures ∙ rw c.deref.ensures.value at (item-copied _ _ _ c.get.ensures.lookup))
