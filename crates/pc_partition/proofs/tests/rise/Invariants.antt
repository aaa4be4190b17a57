-- They rise where those that are left do.
use Rattle.std.proofs.Common.{◌^◌, ◌<◌, drop, map}
use Rattle.pc_partition.specs.Window.{RisesFrom}
use Rattle.pc_partition.proofs.tests.rise.Given as goal

abbrev pub invariant-loop-offset : goal.invariant-loop-offset
invariant-loop-offset l = record {
  small : l.least < 2 ^ 63;
  rises : RisesFrom l.least (map (λ pair. pair.0) (drop l.offset-index l.pairs))
      → RisesFrom 0 (map (λ pair. pair.0) l.pairs);
}
