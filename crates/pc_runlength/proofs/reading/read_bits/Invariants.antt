-- The bits so far, with those of the runs to come, are all bits.
use Rattle.std.proofs.Common.{◌≡◌, ◌++◌, false, drop}
use Rattle.pc_model.specs.MapReading.{bits_in_turn, numbers_in}
use Rattle.pc_runlength.proofs.reading.read_bits.Given as goal

abbrev pub invariant-loop-i : goal.invariant-loop-i
invariant-loop-i l = l.bits ++ bits_in_turn l.bit (drop l.i (numbers_in l.width l.bytes))
    ≡ bits_in_turn false (numbers_in l.width l.bytes)
