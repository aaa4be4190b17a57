-- The heap's items and one more, without the reversal, and the offset of its part.
use Rattle.std.proofs.Common.{set, sym, ◌∙◌, arith}
use Rattle.std.specs.BinaryHeap.{heap_items}
use Rattle.std.proofs.lemmas.List.Sorted.{IsPermutation-map}
use Rattle.pc_retry.proofs.QueueLemmas.{queue-put, room-less, room-other, room-within, rooms-at}
use Rattle.pc_retry.proofs.queue.RetryQueue.put.Goals as goal

pub invariant_of-self : goal.invariant_of-self
invariant_of-self c = let below = room-within c.self.inside.parts.items c.args.part
    (rw (← c.self.view_is) at c.requires.part) in
    queue-put (heap_items c.self.inside.heap) (heap_items c.push.new.self)
    c.self.inside.parts.items
    (record { ready_at = c.args.ready_at; part = c.args.part; offset = c.args.offset })
    c.index_mut.result.now c.put.new.self c.self.invariant
    (c.in-Ok.ensures.heap_order c.self.invariant.heap) c.in-Ok.ensures.permutation below
    c.index_mut.ensures.value c.put.ensures.put

pub returns-clause-retries : goal.returns-clause-retries
returns-clause-retries c = rw (← c.self.view_is)
    (IsPermutation-map (λ r. r.0) _ _ c.in-Ok.ensures.permutation)

pub returns-clause-part_room : goal.returns-clause-part_room
returns-clause-part_room c = let below = room-within c.self.inside.parts.items c.args.part
    (rw (← c.self.view_is) at c.requires.part) in
    rw (← c.self.view_is)
    (rw (rooms-at c.self.inside.parts.items c.args.part)
    (let le = room-less c.self.inside.parts.items c.args.part c.index_mut.result.now c.put.new.self
    below c.index_mut.ensures.value c.put.ensures.room in
    let is = rooms-at (set c.self.inside.parts.items c.args.part c.put.new.self) c.args.part in
    omega (arith, le, is)))

pub returns-clause-rooms : goal.returns-clause-rooms
returns-clause-rooms c = let below = room-within c.self.inside.parts.items c.args.part
    (rw (← c.self.view_is) at c.requires.part) in
    rw (← c.self.view_is) (λ p apart.
    rooms-at (set c.self.inside.parts.items c.args.part c.put.new.self) p
    ∙ room-other c.self.inside.parts.items c.args.part c.index_mut.result.now c.put.new.self
    below c.index_mut.ensures.value p apart
    ∙ sym (rooms-at c.self.inside.parts.items p))
