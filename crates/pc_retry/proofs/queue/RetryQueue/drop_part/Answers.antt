-- The heap keeps what the filter keeps, and of the part no offset is kept.
use Rattle.std.proofs.Common.{not, ◌==◌, map, rules, ◌∙◌, ap, sym, subst, List}
use Rattle.std.specs.Prelude.{filter}
use Rattle.std.specs.BinaryHeap.{heap_items}
use Rattle.std.specs.List.Sorted.{IsPermutation}
use Rattle.std.specs.declared.cmp.Reverse.{Reverse}
use Rattle.std.proofs.lemmas.Fn.{filter_same}
use Rattle.std.proofs.lemmas.List.Sorted.{IsPermutation-map}
use Rattle.pc_retry.specs.declared.queue.Retry.{Retry}
use Rattle.pc_retry.proofs.WaitingLemmas.{filter-reversed}
use Rattle.pc_retry.specs.Offsets.{Kept}
use Rattle.pc_retry.proofs.QueueLemmas.{queue-dropped, rooms-at}
use Rattle.pc_retry.proofs.queue.RetryQueue.drop_part.Goals as goal
use Rattle.pc_retry.proofs.queue.RetryQueue.drop_part.Goals.{After-drop_offsets}

kept : (c : After-drop_offsets) → IsPermutation
    (filter (λ r. not (r.part == c.args.part)) (map (λ r. r.0) (heap_items c.self.inside.heap)))
    (map (λ r. r.0) (heap_items c.retain.new.self))
kept c =
    let filtered = c.retain.ensures.filtered.1 in
    let moved = c.retain.ensures.filtered.2 in
    let same = filter_same _ (λ r. not (r.0.part == c.args.part)) _ (λ x r f' k. search rules) _ _
    filtered in
    subst (λ (rs : List Retry). IsPermutation rs (map (λ r. r.0) (heap_items c.retain.new.self)))
    (ap (map (λ (r : Reverse Retry). r.0)) same
    ∙ filter-reversed (λ r. not (r.part == c.args.part)) (heap_items c.self.inside.heap))
    (IsPermutation-map (λ (r : Reverse Retry). r.0) _ _ moved)

pub invariant_of-self : goal.invariant_of-self
invariant_of-self c = queue-dropped c.args.part (heap_items c.self.inside.heap)
    (heap_items c.retain.new.self) c.self.inside.parts.items c.drop_offsets.new.parts.items
    c.self.invariant c.retain.ensures.heap_order (kept c)
    c.drop_offsets.ensures

pub returns-clause-retries : goal.returns-clause-retries
returns-clause-retries c = rw (← c.self.view_is) (kept c)

pub returns-clause-rooms : goal.returns-clause-rooms
returns-clause-rooms c = rw (← c.self.view_is) (λ p apart.
    rooms-at c.drop_offsets.new.parts.items p
    ∙ ap (λ (k : Kept). k.room) (c.drop_offsets.ensures.others p apart)
    ∙ sym (rooms-at c.self.inside.parts.items p))
