-- The bits so far are those before the place.
use Rattle.std.proofs.Common.{◌≡◌, ◌-◌, ◌++◌, length, take}
use Rattle.pc_model.proofs.RunsAt.{IsAtRun}
use Rattle.pc_model.specs.Bits.{zero_runs}
use Rattle.pc_model.specs.MapSpelling.{bit_bytes}
use Rattle.pc_bitset.proofs.packing.push_bits.Given as goal

abbrev pub invariant-loop-start : goal.invariant-loop-start
invariant-loop-start l = IsAtRun l.bits l.i l.place
    × (l.out.items ≡ l.initial.out.items ++ bit_bytes (take l.place l.bits))

abbrev pub decreases-loop-start : goal.decreases-loop-start
decreases-loop-start l = length (zero_runs l.bits) - l.i
