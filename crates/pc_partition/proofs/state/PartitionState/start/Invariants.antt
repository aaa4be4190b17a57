-- The state stands for the first entries, the others rise from where those end, and there is room.
use Rattle.std.proofs.Common.{◌≤◌, ◌+◌, length, map, take, drop}
use Rattle.pc_partition.specs.Window.{RisesFrom, StandsFor, marks_of_pairs}
use Rattle.pc_partition.proofs.state.PartitionState.start.Given as goal

abbrev pub invariant-loop-offset : goal.invariant-loop-offset
invariant-loop-offset l = record {
  stands : StandsFor l.state.window l.fn.begin 0 (marks_of_pairs (take l.offset-index l.inherited));
  rises : RisesFrom l.state.window.after (map (λ pair. pair.0) (drop l.offset-index l.inherited));
  room : length l.inherited ≤ l.state.room + l.offset-index;
}
