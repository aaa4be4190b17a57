-- The least of what was added is the least that is there.
use Rattle.std.proofs.Common.{sym, ◌∙◌}
use Rattle.std.specs.BinaryHeap.{heap_items}
use Rattle.pc_retry.specs.Offsets.{plain}
use Rattle.pc_retry.proofs.OffsetsLemmas.{hold-least}
use Rattle.pc_retry.proofs.offsets.Offsets.least.Goals as goal

pub returns : goal.returns
returns c = rw (← c.self.view_is) (λ offsets hold. c.first.ensures ∙ sym (hold-least offsets
    (plain (heap_items c.self.inside.added)) (plain (heap_items c.self.inside.gone)) hold
    c.self.invariant.apart))
