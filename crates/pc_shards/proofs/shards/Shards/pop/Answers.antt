-- The part's state is that of the entries without the last.
use Rattle.std.proofs.Common.{◌≡◌, ◌-◌, [], ◌∷◌, ◌++◌, length, take, ap, sym, ◌∙◌, arith}
use Rattle.pc_shards.specs.declared.part.EntryRef.{EntryRef}
use Rattle.pc_shards.specs.declared.part.Part.{Part}
use Rattle.pc_shards.specs.Queues.{queue_of}
use Rattle.pc_shards.proofs.ShardsCut.{popped-rises, popped-view, shards-popped}
use Rattle.pc_shards.proofs.ShardsLemmas.{changes-set}
use Rattle.pc_shards.proofs.shards.Shards.pop.Goals as goal

pub pop-entry-requires-clause-rises : goal.pop-entry-requires-clause-rises
pop-entry-requires-clause-rises c = popped-rises c.self.inside.order
    c.self.inside.parts.items c.args.part c.index_mut-state.result.now c.self.invariant
    (rw (← c.self.view_is) at c.requires) c.index_mut-state.ensures.value

-- the entries as they were before the queue was changed
split : (s t u : Part) (last : EntryRef) → s.entries.items ≡ t.entries.items ++ last ∷ []
    → u.entries ≡ t.entries → s.entries.items ≡ u.entries.items ++ last ∷ []
split s t u last is same = is ∙ ap (λ v. v.items ++ last ∷ []) (sym same)

pub invariant_of-self : goal.invariant_of-self
invariant_of-self c = shards-popped c.self.inside.order c.self.inside.parts.items c.args.part
    c.index_mut-state.result.now c.self.invariant (rw (← c.self.view_is) at c.requires)
    c.index_mut-state.ensures.value
    c.retract.new.self c.pop-entry.result
    (split c.index_mut-state.result.now c.pop-entry.new.self c.retract.new.self c.pop-entry.result
    c.pop-entry.ensures.entries c.retract.ensures.entries)
    (ap (λ v. v.offsets) c.retract.ensures.ready ∙ c.pop-entry.ensures.ready)
    (let at = ap (λ v. v.places) c.retract.ensures.ready in
    let le = c.pop-entry.ensures.capacity in omega (arith, le, at))
    (λ by. c.retract.ensures.queue by ∙ ap (λ v. take
    (length (queue_of v (record { bytes = c.pop-entry.result.record.key })) - 1)
    (queue_of v (record { bytes = c.pop-entry.result.record.key }))) c.pop-entry.ensures.queues)
    (λ k other. c.retract.ensures.others k other
    ∙ ap (λ v. queue_of v k) c.pop-entry.ensures.queues)

pub returns-clause-popped : goal.returns-clause-popped
returns-clause-popped c = rw (← c.self.view_is) (popped-view c.self.inside.order c.self.inside.parts.items c.args.part
    c.index_mut-state.result.now c.self.invariant (rw (← c.self.view_is) at c.requires)
    c.index_mut-state.ensures.value
    c.retract.new.self c.pop-entry.result
    (split c.index_mut-state.result.now c.pop-entry.new.self c.retract.new.self c.pop-entry.result
    c.pop-entry.ensures.entries c.retract.ensures.entries))

pub returns-clause-others : goal.returns-clause-others
returns-clause-others c = rw (← c.self.view_is) (changes-set c.self.inside.order
    c.self.inside.parts.items c.args.part c.retract.new.self)
