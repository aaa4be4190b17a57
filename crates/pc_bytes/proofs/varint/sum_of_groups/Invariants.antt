use Rattle.std.proofs.Common.{◌≡◌, ◌^◌, take}
use Rattle.pc_bytes.specs.Varint.{unsigned_of}
use Rattle.pc_bytes.proofs.varint.sum_of_groups.Given as goal

abbrev pub invariant-loop-byte : goal.invariant-loop-byte
invariant-loop-byte l = record {
  sum : l.sum ≡ unsigned_of (take l.byte-index l.bytes);
  weight : l.weight ≡ 128 ^ l.byte-index;
}
