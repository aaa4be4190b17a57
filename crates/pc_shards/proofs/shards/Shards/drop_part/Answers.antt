-- The part has no entry, and no other part changes.
use Rattle.std.proofs.Common.{ap, ◌∙◌}
use Rattle.pc_shards.specs.Part.{plain_entries}
use Rattle.pc_shards.proofs.ShardsLemmas.{changes-set, shards-empty, view-set}
use Rattle.pc_shards.proofs.shards.Shards.drop_part.Goals as goal

pub returns-clause-dropped : goal.returns-clause-dropped
returns-clause-dropped c = view-set c.self.inside.order c.self.inside.parts.items c.args.part
    c.new.result c.in-Some.ensures.item.3.0 ∙ ap plain_entries c.new.ensures.entries

pub invariant_of-self-2 : goal.invariant_of-self-2
invariant_of-self-2 c = shards-empty c.self.inside.order c.self.inside.parts.items c.args.part
    c.new.result c.in-Some.ensures.item.3.0 c.self.invariant c.new.ensures.entries
    c.new.ensures.ready c.new.ensures.queues

pub returns-clause-others : goal.returns-clause-others
returns-clause-others c = rw (← c.self.view_is)
    (changes-set c.self.inside.order c.self.inside.parts.items c.args.part c.new.result)
