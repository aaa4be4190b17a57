use Rattle.std.proofs.Common.{◌≡◌, length}
use Rattle.pc_bytes.specs.Crc.{with_bytes}
use Rattle.pc_bytes.proofs.crc.crc32c.Given as goal

-- the register so far, and the bytes that are left
abbrev pub invariant-loop-rest : goal.invariant-loop-rest
invariant-loop-rest l = with_bytes l.register l.rest ≡ with_bytes 0xFFFF_FFFF l.bytes

abbrev pub decreases-loop-rest : goal.decreases-loop-rest
decreases-loop-rest l = length l.rest
