-- The part's state is that of the entries and one more, which is ready where it is alone.
use Rattle.std.proofs.Common.{set}
use Rattle.pc_shards.proofs.Lists.{on_err}
use Rattle.pc_shards.proofs.ShardsAdded.{add-absent, add-places, add-rises, add-room, added-others, added-view, refused, shards-added}
use Rattle.pc_shards.proofs.ShardsLemmas.{kept-nothing, shards-kept}
use Rattle.pc_shards.proofs.shards.Shards.add_record.Goals as goal

pub returns-in_err-make_room-clause-stays : goal.returns-in_err-make_room-clause-stays
returns-in_err-make_room-clause-stays c = rw (← c.self.view_is) (on_err c.from_residual.result
    (kept-nothing c.self.inside.order c.self.inside.parts.items c.make_room.new.parts.items
    c.in_err-make_room.ensures.kept))

pub invariant_of-self-in_err-add : goal.invariant_of-self-in_err-add
invariant_of-self-in_err-add c = shards-kept c.self.inside.order c.self.inside.parts.items
    (set c.make_room.new.parts.items c.args.part c.add.new.self) c.self.invariant
    (refused c.self.inside.order c.self.inside.parts.items c.make_room.new.parts.items c.args.part
    c.index_mut.result.now c.self.invariant c.in_ok-make_room.ensures.kept
    c.in_ok-make_room.ensures.made c.index_mut.ensures.value
    c.add.new.self c.in_err-add.ensures.stays c.add.ensures.capacity)

pub returns-in_err-add-clause-stays : goal.returns-in_err-add-clause-stays
returns-in_err-add-clause-stays c = rw (← c.self.view_is)
    (on_err c.from_residual-in_err-add.result
    (kept-nothing c.self.inside.order c.self.inside.parts.items
    (set c.make_room.new.parts.items c.args.part c.add.new.self)
    (refused c.self.inside.order c.self.inside.parts.items c.make_room.new.parts.items c.args.part
    c.index_mut.result.now c.self.invariant c.in_ok-make_room.ensures.kept
    c.in_ok-make_room.ensures.made c.index_mut.ensures.value
    c.add.new.self c.in_err-add.ensures.stays c.add.ensures.capacity)))

pub add-requires-clause-places : goal.add-requires-clause-places
add-requires-clause-places c = add-places c.self.inside.order c.self.inside.parts.items c.make_room.new.parts.items c.args.part
    c.index_mut.result.now c.self.invariant c.in_ok-make_room.ensures.kept
    c.in_ok-make_room.ensures.made c.index_mut.ensures.value

pub add-requires-clause-room : goal.add-requires-clause-room
add-requires-clause-room c = add-room c.self.inside.order c.self.inside.parts.items c.make_room.new.parts.items c.args.part
    c.index_mut.result.now c.self.invariant c.in_ok-make_room.ensures.kept
    c.in_ok-make_room.ensures.made c.index_mut.ensures.value

pub add-requires-clause-rises : goal.add-requires-clause-rises
add-requires-clause-rises c = add-rises c.self.inside.order c.self.inside.parts.items c.make_room.new.parts.items c.args.part
    c.index_mut.result.now c.self.invariant c.in_ok-make_room.ensures.kept
    c.in_ok-make_room.ensures.made c.index_mut.ensures.value

pub add-requires-clause-absent : goal.add-requires-clause-absent
add-requires-clause-absent c = add-absent c.self.inside.order c.self.inside.parts.items c.make_room.new.parts.items c.args.part
    c.index_mut.result.now c.self.invariant c.in_ok-make_room.ensures.kept
    c.in_ok-make_room.ensures.made c.index_mut.ensures.value
    c.args.added.offset (rw (← c.self.view_is) at c.requires)

pub invariant_of-self-2 : goal.invariant_of-self-2
invariant_of-self-2 c = shards-added c.self.inside.order c.self.inside.parts.items c.make_room.new.parts.items c.args.part
    c.index_mut.result.now c.self.invariant c.in_ok-make_room.ensures.kept
    c.in_ok-make_room.ensures.made c.index_mut.ensures.value
    c.args.added c.add.new.self c.in_ok-add.ensures.entries
    (rw (← c.self.view_is) at c.requires) c.in_ok-add.ensures.ready
    c.add.ensures.capacity c.in_ok-add.ensures.queue c.in_ok-add.ensures.others

pub returns-clause-added : goal.returns-clause-added
returns-clause-added c = rw (← c.self.view_is) (added-view c.self.inside.order c.self.inside.parts.items c.make_room.new.parts.items c.args.part
    c.index_mut.result.now c.self.invariant c.in_ok-make_room.ensures.kept
    c.in_ok-make_room.ensures.made c.index_mut.ensures.value
    c.args.added c.add.new.self c.in_ok-add.ensures.entries)

pub returns-clause-others : goal.returns-clause-others
returns-clause-others c = rw (← c.self.view_is) (added-others c.self.inside.order c.self.inside.parts.items c.make_room.new.parts.items c.args.part
    c.index_mut.result.now c.self.invariant c.in_ok-make_room.ensures.kept
    c.in_ok-make_room.ensures.made c.index_mut.ensures.value
    c.args.added c.add.new.self c.in_ok-add.ensures.entries)
