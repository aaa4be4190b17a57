-- The heap's first has the least time.
use Rattle.std.proofs.Common.{sym}
use Rattle.std.specs.BinaryHeap.{heap_items}
use Rattle.pc_retry.proofs.WaitingLemmas.{least_of-first}
use Rattle.pc_retry.proofs.queue.RetryQueue.next_time.Goals as goal

pub returns : goal.returns
returns c = rw (← c.self.view_is) (sym (least_of-first c.in_ok-first.field-0.now
    (heap_items c.self.inside.heap) c.in_ok-first.ensures.item.3.0 c.in_ok-first.ensures.lookup
    (c.in_ok-first.ensures.greatest c.self.invariant.heap)))
