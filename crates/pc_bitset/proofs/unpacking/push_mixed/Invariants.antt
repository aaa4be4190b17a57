-- The lowest bits so far.
use Rattle.std.proofs.Common.{◌≡◌, ◌++◌}
use Rattle.pc_bitset.specs.Packing.{byte_bits}
use Rattle.pc_bitset.proofs.unpacking.push_mixed.Given as goal

abbrev pub invariant-loop-i : goal.invariant-loop-i
invariant-loop-i l = l.bits ≡ l.initial.bits ++ byte_bits l.i l.byte
