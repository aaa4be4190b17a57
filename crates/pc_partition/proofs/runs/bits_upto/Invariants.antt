-- The bits up to the place are made.
use Rattle.pc_partition.proofs.BitsUpto.{IsBuilt}
use Rattle.pc_partition.proofs.runs.bits_upto.Given as goal

abbrev pub invariant-loop-start : goal.invariant-loop-start
invariant-loop-start l = IsBuilt l.fn.runs l.fn.position l.fn.high l.place l.start-index l.bits
