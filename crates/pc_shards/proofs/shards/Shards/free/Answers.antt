-- The part's state is that of the entries of which one is free.
use Rattle.std.proofs.Common.{false}
use Rattle.pc_shards.specs.Entries.{with_busy}
use Rattle.pc_shards.proofs.ShardsLemmas.{changes-set, free-place, shards-free, there, there-holds, view-there}
use Rattle.pc_shards.proofs.shards.Shards.free.Goals as goal

pub free-requires-clause-holds : goal.free-requires-clause-holds
free-requires-clause-holds c = there-holds c.self.inside.order c.self.inside.parts.items c.args.part
    c.args.offset c.index_mut.result.now
    (there c.self.inside.order c.self.inside.parts.items c.args.part c.args.offset
    c.index_mut.result.now c.self.invariant (rw (← c.self.view_is) at c.requires) c.index_mut.ensures.value)

pub free-requires-clause-room : goal.free-requires-clause-room
free-requires-clause-room c = free-place c.self.inside.order c.self.inside.parts.items c.args.part
    c.args.offset c.index_mut.result.now
    (there c.self.inside.order c.self.inside.parts.items c.args.part c.args.offset
    c.index_mut.result.now c.self.invariant (rw (← c.self.view_is) at c.requires) c.index_mut.ensures.value)

pub invariant_of-self : goal.invariant_of-self
invariant_of-self c = shards-free c.self.inside.order c.self.inside.parts.items c.args.part
    c.args.offset c.index_mut.result.now c.free.new.self c.self.invariant
    (there c.self.inside.order c.self.inside.parts.items c.args.part c.args.offset
    c.index_mut.result.now c.self.invariant (rw (← c.self.view_is) at c.requires) c.index_mut.ensures.value)
    c.free.ensures.queues c.free.ensures.capacity c.free.ensures.entries c.free.ensures.ready
    c.free.ensures.same

pub returns-clause-free : goal.returns-clause-free
returns-clause-free c = rw (← c.self.view_is) (view-there c.self.inside.order c.self.inside.parts.items c.args.part
    c.args.offset c.index_mut.result.now c.free.new.self
    (there c.self.inside.order c.self.inside.parts.items c.args.part c.args.offset
    c.index_mut.result.now c.self.invariant (rw (← c.self.view_is) at c.requires) c.index_mut.ensures.value)
    (with_busy c.args.offset false) c.free.ensures.entries)

pub returns-clause-others : goal.returns-clause-others
returns-clause-others c = rw (← c.self.view_is) (changes-set c.self.inside.order c.self.inside.parts.items c.args.part
    c.free.new.self)
