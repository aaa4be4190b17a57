-- The first of the heap is the least.
use Rattle.std.proofs.Common.{sym}
use Rattle.std.specs.BinaryHeap.{heap_items}
use Rattle.pc_retry.proofs.OffsetsLemmas.{heap-least}
use Rattle.pc_retry.proofs.offsets.first.Goals as goal

pub returns : goal.returns
returns c = sym (heap-least c.in_ok-least.least.now (heap_items c.args.heap.now)
    c.in_ok-least.ensures.item.3.0 c.in_ok-least.ensures.lookup
    (c.in_ok-least.ensures.greatest c.requires))
