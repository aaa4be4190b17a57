-- The heap's first is the least, and its offset goes from those of its part.
use Rattle.std.proofs.Common.{◌≡◌, ◌∷◌, arith, map, set, None, ap, ◌∙◌, sym, subst}
use Rattle.std.specs.Option.{option_map}
use Rattle.std.specs.BinaryHeap.{heap_items}
use Rattle.std.specs.List.Sorted.{IsPermutation}
use Rattle.std.proofs.lemmas.List.Sorted.{IsPermutation-map}
use Rattle.std.proofs.lemmas.Option.{none-some, same_Some}
use Rattle.std.specs.declared.cmp.Reverse.{Reverse}
use Rattle.pc_retry.specs.declared.queue.Retry.{Retry}
use Rattle.pc_retry.specs.Waiting.{due_retry, offsets_of}
use Rattle.pc_retry.proofs.QueueLemmas.{hold-read, hold-within, queue-taken, queue-there, room-kept, rooms-at}
use Rattle.pc_retry.proofs.WaitingLemmas.{least_retry-first, due_retry-late, due_retry-popped}
use Rattle.pc_retry.proofs.queue.RetryQueue.due.Goals as goal
use Rattle.pc_retry.proofs.queue.RetryQueue.due.Goals.{Then-now-first, After-peek}

late : (c : Then-now-first) → due_retry c.args.now
    (map (λ r. r.0) (heap_items c.self.inside.heap)) ≡ None
late c = due_retry-late _ _ _ (least_retry-first c.in_ok-first.field-0.now
    (heap_items c.self.inside.heap) c.in_ok-first.ensures.item.3.0 c.in_ok-first.ensures.lookup
    (c.in_ok-first.ensures.greatest c.self.invariant.heap)) c.if-now-first.true

pub returns-then-now-first-clause-due : goal.returns-then-now-first-clause-due
returns-then-now-first-clause-due c = rw (← c.self.view_is)
    (sym (ap (option_map (λ (r : Retry). (r.part, r.offset))) (late c)))

pub returns-then-now-first-clause-taken : goal.returns-then-now-first-clause-taken
returns-then-now-first-clause-taken c = rw (← c.self.view_is)
    (λ r is. absurd (none-some r (sym (late c) ∙ is)))

pub returns-clause-due : goal.returns-clause-due
returns-clause-due c = let due = due_retry-popped c.args.now (heap_items c.self.inside.heap)
    c.in_ok-first.field-0.now c.in_ok-first-2.field-0 c.in_ok-first.ensures.item.3.0
    c.in_ok-first.ensures.lookup c.in_ok-first-2.ensures.top
    (c.in_ok-first.ensures.greatest c.self.invariant.heap)
    (c.in_ok-first-2.ensures.heap_order c.self.invariant.heap).1 c.if-now-first.false in
    rw (← c.self.view_is) (sym (ap (option_map (λ (r : Retry). (r.part, r.offset))) due))

pub returns-clause-taken : goal.returns-clause-taken
returns-clause-taken c = let due = due_retry-popped c.args.now (heap_items c.self.inside.heap)
    c.in_ok-first.field-0.now c.in_ok-first-2.field-0 c.in_ok-first.ensures.item.3.0
    c.in_ok-first.ensures.lookup c.in_ok-first-2.ensures.top
    (c.in_ok-first.ensures.greatest c.self.invariant.heap)
    (c.in_ok-first-2.ensures.heap_order c.self.invariant.heap).1 c.if-now-first.false in
    rw (← c.self.view_is) (λ r is. subst (λ (x : Retry). IsPermutation
    (map (λ r. r.0) (heap_items c.self.inside.heap))
    (x ∷ map (λ r. r.0) (heap_items c.pop.new.self)))
    (same_Some _ _ (sym due ∙ is))
    (IsPermutation-map (λ (r : Reverse Retry). r.0) _ _ c.in_ok-first-2.ensures.permutation))

pub index_mut-requires : goal.index_mut-requires
index_mut-requires c =
    let there = queue-there (heap_items c.self.inside.heap) (heap_items c.pop.new.self)
    c.self.inside.parts.items c.in_ok-first-2.field-0 c.self.invariant
    c.in_ok-first-2.ensures.permutation in
    let below = hold-within c.self.inside.parts.items c.in_ok-first-2.field-0.0.part
    c.in_ok-first-2.field-0.0.offset _ there in
    omega (arith, below, c.self.inside.parts.ok.0)

pub take-requires : goal.take-requires
take-requires c =
    let there = queue-there (heap_items c.self.inside.heap) (heap_items c.pop.new.self)
    c.self.inside.parts.items c.in_ok-first-2.field-0 c.self.invariant
    c.in_ok-first-2.ensures.permutation in
    let below = hold-within c.self.inside.parts.items c.in_ok-first-2.field-0.0.part
    c.in_ok-first-2.field-0.0.offset _ there in (
      offsets_of c.in_ok-first-2.field-0.0.part (map (λ r. r.0) (heap_items c.pop.new.self)),
      hold-read c.self.inside.parts.items c.in_ok-first-2.field-0.0.part c.index_mut.result.now below
          c.index_mut.ensures.value _ there,
    )

pub invariant_of-self-2 : goal.invariant_of-self-2
invariant_of-self-2 c = queue-taken (heap_items c.self.inside.heap) (heap_items c.pop.new.self)
    c.self.inside.parts.items c.in_ok-first-2.field-0 c.index_mut.result.now c.take.new.self
    c.self.invariant (c.in_ok-first-2.ensures.heap_order c.self.invariant.heap).0
    c.in_ok-first-2.ensures.permutation c.index_mut.ensures.value c.take.ensures.taken

pub returns-clause-rooms : goal.returns-clause-rooms
returns-clause-rooms c =
    let there = queue-there (heap_items c.self.inside.heap) (heap_items c.pop.new.self)
    c.self.inside.parts.items c.in_ok-first-2.field-0 c.self.invariant
    c.in_ok-first-2.ensures.permutation in
    let below = hold-within c.self.inside.parts.items c.in_ok-first-2.field-0.0.part
    c.in_ok-first-2.field-0.0.offset _ there in
    rw (← c.self.view_is) (λ p.
    let le = room-kept c.self.inside.parts.items c.in_ok-first-2.field-0.0.part
    c.index_mut.result.now c.take.new.self below c.index_mut.ensures.value c.take.ensures.room p in
    let was = rooms-at c.self.inside.parts.items p in
    let is = rooms-at (set c.self.inside.parts.items c.in_ok-first-2.field-0.0.part
    c.take.new.self) p in
    omega (arith, le, was, is))
