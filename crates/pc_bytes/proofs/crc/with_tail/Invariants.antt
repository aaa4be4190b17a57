use Rattle.std.proofs.Common.{◌≡◌, drop}
use Rattle.pc_bytes.specs.Crc.{with_bytes}
use Rattle.pc_bytes.proofs.crc.with_tail.Given as goal

-- the register so far, and the bytes that are left
abbrev pub invariant-loop-byte : goal.invariant-loop-byte
invariant-loop-byte l = with_bytes l.register (drop l.byte-index l.bytes) ≡ with_bytes l.fn.register l.bytes
