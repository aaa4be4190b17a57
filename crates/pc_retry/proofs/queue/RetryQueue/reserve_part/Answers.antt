-- Each part has what it had.
use Rattle.std.proofs.Common.{arith}
use Rattle.std.specs.BinaryHeap.{heap_items}
use Rattle.pc_retry.proofs.QueueLemmas.{queue-kept, rooms-at}
use Rattle.pc_retry.proofs.queue.RetryQueue.reserve_part.Goals as goal

pub invariant_of-self : goal.invariant_of-self
invariant_of-self c = queue-kept (heap_items c.self.inside.heap) c.self.inside.parts.items
    c.make_room.new.parts.items c.self.invariant c.make_room.ensures.kept

pub returns-clause-rooms : goal.returns-clause-rooms
returns-clause-rooms c = rw (← c.self.view_is) (λ p.
    let le = c.make_room.ensures.kept.rooms p in
    let was = rooms-at c.self.inside.parts.items p in
    let is = rooms-at c.make_room.new.parts.items p in omega (arith, le, was, is))
