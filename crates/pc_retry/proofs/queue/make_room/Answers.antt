-- Empty parts were put behind the others, and the part at the place has the room.
use Rattle.std.proofs.Common.{◌<◌, [], ◌∷◌, ◌++◌, length, set, sym, subst, List}
use Rattle.pc_retry.specs.Offsets.{Kept}
use Rattle.pc_retry.specs.Waiting.{KeepsParts}
use Rattle.pc_retry.proofs.QueueLemmas.{keeps-push, keeps-set, keeps-then}
use Rattle.pc_retry.proofs.queue.make_room.Goals as goal

pub grow-preserved : goal.grow-preserved
grow-preserved c = subst (λ (ks : List Kept). KeepsParts c.args.parts.now.items ks)
    (sym c.in_ok-push.ensures.items)
    (keeps-then c.args.parts.now.items c.grow.parts.items (c.grow.parts.items ++ c.new.result ∷ [])
    c.grow.invariant (keeps-push c.grow.parts.items c.new.result c.new.ensures))

pub returns-clause-kept : goal.returns-clause-kept
returns-clause-kept c =
    let within : c.args.at < length c.grow.parts.items =
    rw c.as_slice.ensures.value at c.grow-test.false in
    keeps-then c.args.parts.now.items c.grow.parts.items
    (set c.grow.parts.items c.args.at c.reserve.new.self) c.grow.invariant
    (keeps-set c.grow.parts.items c.args.at c.index_mut.result.now c.reserve.new.self within
    c.index_mut.ensures.value c.reserve.ensures.kept c.reserve.ensures.same)
