-- The state of no offsets, and of one more.
use Rattle.std.proofs.Common.{false, arith}
use Rattle.pc_partition.proofs.StateLemmas.{IsState-start}
use Rattle.pc_partition.proofs.WindowLemmas.{IsInherited-one, StandsFor-start, begin-small}
use Rattle.pc_partition.proofs.state.PartitionState.start.Goals as goal

pub invariant_of-state : goal.invariant_of-state
invariant_of-state c = rw (c.in_ok-with_capacity.ensures.runs, c.in_ok-with_capacity.ensures.high, c.in_ok-with_capacity.ensures.counts)
    (IsState-start c.args.begin _ (begin-small c.args.begin _ c.requires))

pub loop-offset-init : goal.loop-offset-init
loop-offset-init c = record {
  stands = rw (c.in_ok-with_capacity.ensures.runs, c.in_ok-with_capacity.ensures.high) (StandsFor-start c.args.begin (begin-small c.args.begin _ c.requires));
  rises = c.requires;
  room = let exact = c.in_ok-with_capacity.ensures.room in omega (arith, exact);
}

pub loop-offset-preserved : goal.loop-offset-preserved
loop-offset-preserved c =
    let is = IsInherited-one c.loop-offset.state.window c.args.begin c.loop-offset.offset-index c.args.inherited.now (0, false)
    c.loop-offset-test.true c.loop-offset.invariant.stands c.loop-offset.invariant.rises in
    record {
      stands = rw c.inherit.ensures.window is.stands;
      rises = rw c.inherit.ensures.window is.rises;
      room = omega (arith, c.inherit.ensures.room, c.loop-offset.invariant.room);
    }
