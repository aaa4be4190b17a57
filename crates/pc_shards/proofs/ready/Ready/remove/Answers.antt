-- The heap keeps the others.
use Rattle.std.proofs.Common.{ℕ, not, ◌==◌, List, map, rules, ap, subst, ◌∙◌}
use Rattle.std.specs.Prelude.{filter}
use Rattle.std.specs.BinaryHeap.{heap_items}
use Rattle.std.specs.List.Sorted.{IsPermutation}
use Rattle.std.specs.declared.cmp.Reverse.{Reverse}
use Rattle.std.proofs.lemmas.Fn.{filter_same}
use Rattle.std.proofs.lemmas.List.Sorted.{IsPermutation-map}
use Rattle.pc_shards.proofs.ReadyLemmas.{map-reversed, rises-filtered, rising-filtered, rising-permuted}
use Rattle.pc_shards.proofs.ready.Ready.remove.Goals as goal

pub returns-else-eq-clause-offsets : goal.returns-else-eq-clause-offsets
returns-else-eq-clause-offsets c =
    let items = heap_items c.self.inside.heap in
    let filtered = c.retain.ensures.filtered.1 in
    let moved = c.retain.ensures.filtered.2 in
    let same = filter_same _ (λ o. not (o.0 == c.args.offset)) _ (λ x r f' k. search rules) _ _
    filtered in
    let kept = IsPermutation-map (λ (o : Reverse ℕ). o.0) _ _ moved in
    let mine : IsPermutation (filter (λ n. not (n == c.args.offset)) (map (λ o. o.0) items))
    (map (λ o. o.0) (heap_items c.retain.new.self)) = subst (λ (ns : List ℕ). IsPermutation ns
    (map (λ (o : Reverse ℕ). o.0) (heap_items c.retain.new.self)))
    (ap (map (λ (o : Reverse ℕ). o.0)) same
    ∙ map-reversed (λ n. not (n == c.args.offset)) items) kept in
    let rises = rw (← c.self.view_is) at c.requires in
    rw (← c.self.view_is) (rising-permuted (filter (λ n. not (n == c.args.offset))
    (map (λ o. o.0) items)) (map (λ o. o.0) (heap_items c.retain.new.self)) mine
    (rises-filtered (λ n. not (n == c.args.offset)) (map (λ o. o.0) items) rises)
    ∙ rising-filtered (λ n. not (n == c.args.offset)) (map (λ o. o.0) items) rises)
