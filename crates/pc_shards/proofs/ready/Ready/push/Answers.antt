-- The heap has room, and its items are those and one more.
use Rattle.std.proofs.Common.{◌≡◌, ℕ, false, true, ◌<◌, ◌∷◌, length, map, arith}
use Rattle.std.specs.BinaryHeap.{heap_capacity, heap_items}
use Rattle.std.specs.declared.cmp.Reverse.{Reverse}
use Rattle.std.proofs.lemmas.List.{length-map}
use Rattle.std.proofs.lemmas.List.Sorted.{IsPermutation-map}
use Rattle.pc_shards.specs.Rising.{rising}
use Rattle.pc_shards.proofs.ReadyLemmas.{length-rising, rising-permuted}
use Rattle.pc_shards.proofs.RisingLemmas.{Rises-put}
use Rattle.pc_shards.proofs.ready.Ready.push.Goals as goal

pub unreachable-requires : goal.unreachable-requires
unreachable-requires c =
    let items = heap_items c.self.inside.heap in
    let room : length (rising (map (λ (o : Reverse ℕ). o.0) items))
    < heap_capacity c.self.inside.heap = rw (← c.self.view_is) at c.requires.room in
    let count = length-rising (map (λ (o : Reverse ℕ). o.0) items) in
    let mapped = length-map items (λ (o : Reverse ℕ). o.0) in
    let all = c.self.inside.heap.data.ok.0 in
    let is : false ≡ true =
    c.in_default.ensures.succeeds (omega (arith, room, count, mapped, all)) in cc

pub returns-clause-offsets : goal.returns-clause-offsets
returns-clause-offsets c =
    let items = heap_items c.self.inside.heap in
    rw (← c.self.view_is) (rising-permuted
    (map (λ (o : Reverse ℕ). o.0) (record { 0 = c.args.offset } ∷ items))
    (map (λ (o : Reverse ℕ). o.0) (heap_items c.push.new.self))
    (IsPermutation-map (λ (o : Reverse ℕ). o.0) _ _ c.in-Ok.ensures.permutation)
    (Rises-put c.args.offset (rising (map (λ (o : Reverse ℕ). o.0) items))
    (rw (← c.self.view_is) at c.requires.rises) (rw (← c.self.view_is) at c.requires.absent)))
