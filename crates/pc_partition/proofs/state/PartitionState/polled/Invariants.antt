-- The first offsets are polled, the others may be, and there is room for them.
use Rattle.std.proofs.Common.{◌≤◌, ◌+◌, length}
use Rattle.pc_partition.proofs.WindowLemmas.{IsPolledUpto}
use Rattle.pc_partition.proofs.state.PartitionState.polled.Given as goal

abbrev pub invariant-loop-offset : goal.invariant-loop-offset
invariant-loop-offset l = record {
  upto : IsPolledUpto l.fn.self.window l.self.window l.offset-index l.offsets;
  room : length l.offsets ≤ l.self.room + l.offset-index;
}
