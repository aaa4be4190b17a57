use Rattle.std.proofs.Common.{◌≡◌, ◌≤◌, ◌+◌, ◌^◌, length}
use Rattle.pc_batch.specs.Records.{records_at, counted}
use Rattle.pc_batch.proofs.records.count.Given as goal

-- those found, and those that are left
abbrev pub invariant-records : goal.invariant-records
invariant-records l = record {
  told : counted l.found (l.fn.place + length l.bytes) (records_at (length l.reader.bytes) l.frame l.least l.reader.bytes)
      ≡ counted 0 (l.fn.place + length l.bytes) (records_at (length l.bytes) l.frame l.frame.base l.bytes);
  ends : l.reader.place + length l.reader.bytes ≡ l.fn.place + length l.bytes;
  room : l.found + length l.reader.bytes ≤ length l.bytes;
  least : l.least ≤ 2 ^ 63;
}

abbrev pub decreases-records : goal.decreases-records
decreases-records l = length l.reader.bytes
