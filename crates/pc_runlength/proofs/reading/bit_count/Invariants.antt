-- The numbers so far fit, and the count is that of their bits.
use Rattle.std.proofs.Common.{◌≡◌, ◌+◌, ◌-◌, ◌^◌, ◌<◌, false, min, length, drop}
use Rattle.std.specs.List.{list_all}
use Rattle.pc_model.specs.MapReading.{bits_in_turn, numbers_in}
use Rattle.pc_model.specs.MapSpelling.{number_fits}
use Rattle.pc_runlength.proofs.reading.bit_count.Given as goal

abbrev pub invariant-loop-i : goal.invariant-loop-i
invariant-loop-i l = (list_all (number_fits l.width) (drop l.i (numbers_in l.width l.bytes)) ≡ list_all (number_fits l.width) (numbers_in l.width l.bytes))
    × (min (l.count + length (bits_in_turn false (drop l.i (numbers_in l.width l.bytes)))) (2 ^ 64 - 1)
    ≡ min (length (bits_in_turn false (numbers_in l.width l.bytes))) (2 ^ 64 - 1)) × (l.count < 2 ^ 64)
