-- The first of the heap is the least.
use Rattle.std.proofs.Common.{sym}
use Rattle.std.specs.BinaryHeap.{heap_items}
use Rattle.pc_shards.proofs.ReadyLemmas.{heap-least}
use Rattle.pc_shards.proofs.ready.Ready.least.Goals as goal

pub returns : goal.returns
returns c = rw (← c.self.view_is) (sym (heap-least c.in_ok-first.first.now
    (heap_items c.self.inside.heap) c.in_ok-first.ensures.item.3.0 c.in_ok-first.ensures.lookup
    (c.in_ok-first.ensures.greatest c.self.invariant) (rw (← c.self.view_is) at c.requires)))
