-- What is taken out is the first, which is the offset.
use Rattle.std.proofs.Common.{◌≡◌, ℕ, ◌<◌, ◌∷◌, length, map, ap, sym, subst, ◌∙◌, arith}
use Rattle.std.specs.BinaryHeap.{heap_items}
use Rattle.std.specs.declared.cmp.Reverse.{Reverse}
use Rattle.std.proofs.lemmas.List.Sorted.{IsPermutation-map}
use Rattle.std.proofs.lemmas.Option.{same_Some}
use Rattle.pc_shards.specs.Rising.{Rises, but, put, rising}
use Rattle.pc_shards.proofs.ReadyLemmas.{but-put, heap-least, no-first, rising-permuted}
use Rattle.pc_shards.proofs.ready.Ready.pop.Goals as goal

pub unreachable-requires : goal.unreachable-requires
unreachable-requires c = no-first (heap_items c.self.inside.heap) c.args.offset
    (let none = c.in_default.ensures.none in let all = c.self.inside.heap.data.ok.0 in
    omega (arith, none, all)) (rw (← c.self.view_is) at c.requires.first)

pub returns-clause-offsets : goal.returns-clause-offsets
returns-clause-offsets c =
    let items = heap_items c.self.inside.heap in
    let left = heap_items c.pop.new.self in
    let x : Reverse ℕ = c.in-Some.field-0 in
    let rises : Rises (rising (map (λ (o : Reverse ℕ). o.0) items)) =
    rw (← c.self.view_is) at c.requires.rises in
    let some : 0 < length items = (let len = c.in-Some.ensures.len in
    let all = c.self.inside.heap.data.ok.0 in omega (arith, len, all)) in
    let first = heap-least x items some c.in-Some.ensures.top
    (c.in-Some.ensures.heap_order c.self.invariant).1 rises in
    let at : x.0 ≡ c.args.offset = same_Some _ _ (sym first
    ∙ rw (← c.self.view_is) at c.requires.first) in
    let moved : put x.0 (rising (map (λ (o : Reverse ℕ). o.0) left))
    ≡ rising (map (λ (o : Reverse ℕ). o.0) items) =
    rising-permuted (map (λ (o : Reverse ℕ). o.0) items)
    (map (λ (o : Reverse ℕ). o.0) (x ∷ left))
    (IsPermutation-map (λ (o : Reverse ℕ). o.0) _ _ c.in-Some.ensures.permutation) rises in
    rw (← c.self.view_is) (sym (ap (λ n. but n (rising (map (λ (o : Reverse ℕ). o.0) items))) (sym at)
    ∙ ap (but x.0) (sym moved)
    ∙ but-put x.0 (rising (map (λ (o : Reverse ℕ). o.0) left)) (subst Rises (sym moved) rises)))
