-- The first runs are counted.
use Rattle.pc_partition.proofs.CountsLemmas.{IsCounting}
use Rattle.pc_partition.proofs.counts.count_long.Given as goal

abbrev pub invariant-loop-start : goal.invariant-loop-start
invariant-loop-start l = IsCounting l.limit l.end l.place l.count l.start-index l.runs
