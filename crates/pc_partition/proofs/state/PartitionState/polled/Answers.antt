-- One offset after the other, in the room that was made.
use Rattle.std.proofs.Common.{arith}
use Rattle.pc_partition.proofs.WindowLemmas.{IsPolledNext-one, StandsFor-polled}
use Rattle.pc_partition.proofs.state.PartitionState.polled.Goals as goal

pub returns-clause-polled : goal.returns-clause-polled
returns-clause-polled c = λ begin n marks is next. StandsFor-polled c.args.self.now.window c.loop-offset.self.window
    c.loop-offset.offset-index c.args.offsets.now begin n marks c.loop-offset.invariant.upto.window
    c.loop-offset-test.false c.requires.rises is next

pub loop-offset-preserved : goal.loop-offset-preserved
loop-offset-preserved c =
    let next = IsPolledNext-one c.args.self.now.window c.loop-offset.self.window c.poll.new.self.window
    c.loop-offset.offset-index 0 c.args.offsets.now c.loop-offset-test.true c.loop-offset.invariant.upto in
    record {
      upto = next.upto c.poll.ensures.window;
      room = omega (arith, c.poll.ensures.room, c.loop-offset.invariant.room);
    }
