-- The part's state is that of the entries of which one is busy.
use Rattle.std.proofs.Common.{true}
use Rattle.pc_shards.specs.Entries.{with_busy}
use Rattle.pc_shards.proofs.ShardsLemmas.{changes-set, found, found-holds, shards-busy, view-changed}
use Rattle.pc_shards.proofs.shards.Shards.busy.Goals as goal

pub busy-requires : goal.busy-requires
busy-requires c = found-holds c.self.inside.order c.self.inside.parts.items c.args.part
    c.args.offset c.index_mut.result.now
    (found c.self.inside.order c.self.inside.parts.items c.args.part c.args.offset
    c.index_mut.result.now c.self.invariant (rw (← c.self.view_is) at c.requires) c.index_mut.ensures.value)

pub invariant_of-self : goal.invariant_of-self
invariant_of-self c = shards-busy c.self.inside.order c.self.inside.parts.items c.args.part
    c.args.offset c.index_mut.result.now c.busy.new.self c.self.invariant
    (found c.self.inside.order c.self.inside.parts.items c.args.part c.args.offset
    c.index_mut.result.now c.self.invariant (rw (← c.self.view_is) at c.requires) c.index_mut.ensures.value)
    c.busy.ensures.queues c.busy.ensures.capacity c.busy.ensures.entries c.busy.ensures.ready

pub returns-clause-busy : goal.returns-clause-busy
returns-clause-busy c = rw (← c.self.view_is) (view-changed c.self.inside.order c.self.inside.parts.items c.args.part
    c.args.offset c.index_mut.result.now c.busy.new.self
    (found c.self.inside.order c.self.inside.parts.items c.args.part c.args.offset
    c.index_mut.result.now c.self.invariant (rw (← c.self.view_is) at c.requires) c.index_mut.ensures.value)
    (with_busy c.args.offset true) c.busy.ensures.entries)

pub returns-clause-others : goal.returns-clause-others
returns-clause-others c = rw (← c.self.view_is) (changes-set c.self.inside.order c.self.inside.parts.items c.args.part
    c.busy.new.self)
