-- The escapes of the bytes so far are appended.
use Rattle.std.proofs.Common.{◌≡◌, ◌++◌, take}
use Rattle.pc_lines.specs.Escape.{escaped_of}
use Rattle.pc_lines.proofs.escape.put_escapes.Given as goal

abbrev pub invariant-loop-byte : goal.invariant-loop-byte
invariant-loop-byte l = l.out.items ≡ l.initial.out.items ++ escaped_of (take l.byte-index l.bytes)
