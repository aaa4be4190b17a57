-- The count is the number of the bits.
use Rattle.std.proofs.Common.{sym}
use Rattle.pc_model.proofs.BitsLemmas.{length-view}
use Rattle.pc_model.proofs.bits.Bits.count.Goals as goal

pub returns-clause-count : goal.returns-clause-count
returns-clause-count c = rw (← c.self.view_is) (sym (length-view _ _ c.self.invariant))

pub returns-clause-small : goal.returns-clause-small
returns-clause-small c = rw (← c.self.view_is, length-view _ _ c.self.invariant) c.self.invariant.small
