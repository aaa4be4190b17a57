-- The part's state is that of the entries of which one failed once more.
use Rattle.std.proofs.Common.{ap, arith}
use Rattle.pc_shards.specs.Entries.{with_failure}
use Rattle.pc_shards.proofs.ShardsLemmas.{changes-set, found, found-holds, found-view, shards-failed, view-changed}
use Rattle.pc_shards.proofs.shards.Shards.fail.Goals as goal

pub fail-requires-clause-holds : goal.fail-requires-clause-holds
fail-requires-clause-holds c = found-holds c.self.inside.order c.self.inside.parts.items c.args.part
    c.args.offset c.index_mut.result.now
    (found c.self.inside.order c.self.inside.parts.items c.args.part c.args.offset
    c.index_mut.result.now c.self.invariant (rw (← c.self.view_is) at c.requires.first) c.index_mut.ensures.value)

pub fail-requires-clause-fits : goal.fail-requires-clause-fits
fail-requires-clause-fits c = rw (found-view c.self.inside.order c.self.inside.parts.items
    c.args.part c.args.offset c.index_mut.result.now
    (found c.self.inside.order c.self.inside.parts.items c.args.part c.args.offset
    c.index_mut.result.now c.self.invariant (rw (← c.self.view_is) at c.requires.first) c.index_mut.ensures.value))
    at (rw (← c.self.view_is) at c.requires.fits)

pub invariant_of-self : goal.invariant_of-self
invariant_of-self c = shards-failed c.self.inside.order c.self.inside.parts.items c.args.part
    c.args.offset c.index_mut.result.now c.fail.new.self c.self.invariant
    (found c.self.inside.order c.self.inside.parts.items c.args.part c.args.offset
    c.index_mut.result.now c.self.invariant (rw (← c.self.view_is) at c.requires.first) c.index_mut.ensures.value)
    c.fail.ensures.queues (omega (arith, ap (λ v. v.places) c.fail.ensures.ready))
    c.fail.ensures.entries c.fail.ensures.ready

pub returns-clause-failed : goal.returns-clause-failed
returns-clause-failed c = rw (← c.self.view_is) (view-changed c.self.inside.order c.self.inside.parts.items c.args.part
    c.args.offset c.index_mut.result.now c.fail.new.self
    (found c.self.inside.order c.self.inside.parts.items c.args.part c.args.offset
    c.index_mut.result.now c.self.invariant (rw (← c.self.view_is) at c.requires.first) c.index_mut.ensures.value)
    (with_failure c.args.offset) c.fail.ensures.entries)

pub returns-clause-others : goal.returns-clause-others
returns-clause-others c = rw (← c.self.view_is) (changes-set c.self.inside.order c.self.inside.parts.items c.args.part
    c.fail.new.self)
