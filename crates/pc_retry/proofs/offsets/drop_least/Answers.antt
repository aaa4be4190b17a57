-- What is taken out is the least.
use Rattle.std.specs.BinaryHeap.{heap_items}
use Rattle.pc_retry.proofs.OffsetsLemmas.{popped}
use Rattle.pc_retry.proofs.offsets.drop_least.Goals as goal

pub returns-clause-dropped : goal.returns-clause-dropped
returns-clause-dropped c = popped c.pop.result (heap_items c.args.heap.now)
    (heap_items c.pop.new.self) c.args.heap.now.data.len c.args.heap.now.data.ok.0
    c.pop.ensures.top c.pop.ensures.permutation c.pop.ensures.heap_order c.requires
    c.pop.ensures.none
