-- No part changes but its room.
use Rattle.pc_shards.proofs.ShardsLemmas.{kept-nothing, shards-kept}
use Rattle.pc_shards.proofs.shards.Shards.reserve.Goals as goal

pub invariant_of-self : goal.invariant_of-self
invariant_of-self c = shards-kept c.self.inside.order c.self.inside.parts.items
    c.make_room.new.parts.items c.self.invariant c.make_room.ensures.kept

pub returns : goal.returns
returns c = rw (← c.self.view_is) (kept-nothing c.self.inside.order c.self.inside.parts.items
    c.make_room.new.parts.items c.make_room.ensures.kept)
