-- The bits of the bytes so far.
use Rattle.std.proofs.Common.{◌≡◌, ◌*◌, min}
use Rattle.pc_model.specs.MapReading.{bits_in}
use Rattle.pc_bitset.proofs.unpacking.read_bits.Given as goal

abbrev pub invariant-loop-byte : goal.invariant-loop-byte
invariant-loop-byte l = l.bits ≡ bits_in (min (8 * l.byte-index) l.count) l.bytes
