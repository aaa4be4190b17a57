-- Empty parts were put behind the others, and the part at the place has room for one entry more.
use Rattle.std.proofs.Common.{◌<◌, [], ◌∷◌, ◌++◌, length, ap, refl, set, sym, subst, List}
use Rattle.std.proofs.lemmas.Option.{slice_get_read}
use Rattle.pc_shards.specs.declared.part.Part.{Part}
use Rattle.pc_shards.specs.Queues.{queue_of}
use Rattle.pc_shards.specs.Shards.{KeepsParts}
use Rattle.pc_shards.proofs.Lists.{on_ok}
use Rattle.pc_shards.proofs.ShardsLemmas.{kept-push, kept-set, kept-then, room-made}
use Rattle.pc_shards.proofs.shards.make_room.Goals as goal

pub grow-preserved : goal.grow-preserved
grow-preserved c = subst (λ (ps : List Part). KeepsParts c.args.parts.now.items ps)
    (sym c.in_ok-push.ensures.items)
    (kept-then c.args.parts.now.items c.grow.parts.items (c.grow.parts.items ++ c.new.result ∷ [])
    c.grow.invariant (kept-push c.new.result c.grow.parts.items c.new.ensures.entries
    c.new.ensures.ready c.new.ensures.queues))

pub returns-clause-kept : goal.returns-clause-kept
returns-clause-kept c =
    let within : c.args.at < length c.grow.parts.items =
    rw c.as_slice.ensures.value at c.grow-test.false in
    kept-then c.args.parts.now.items c.grow.parts.items
    (set c.grow.parts.items c.args.at c.reserve.new.self) c.grow.invariant
    (kept-set c.grow.parts.items c.args.at c.index_mut.result.now c.reserve.new.self within
    (slice_get_read c.grow.parts.items (length c.grow.parts.items) c.args.at
    c.index_mut.result.now refl within c.index_mut.ensures.value)
    (record {
      entries = c.reserve.ensures.entries;
      ready = c.reserve.ensures.ready;
      queues = λ k. ap (λ v. queue_of v k) c.reserve.ensures.queues;
    }) c.reserve.ensures.capacity)

pub returns-clause-made : goal.returns-clause-made
returns-clause-made c =
    let within : c.args.at < length c.grow.parts.items =
    rw c.as_slice.ensures.value at c.grow-test.false in
    on_ok c.reserve.result c.reserve.ensures.places c.reserve.ensures.room
    (λ places room. room-made c.grow.parts.items c.args.at c.reserve.new.self within places room)
