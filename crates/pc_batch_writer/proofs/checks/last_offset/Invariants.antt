-- What comes of all is what comes of those that are left.
use Rattle.std.proofs.Common.{◌≡◌, map, drop}
use Rattle.pc_batch_writer.specs.Writing.{plain_new, offsets_from}
use Rattle.pc_batch_writer.proofs.checks.last_offset.Given as goal

abbrev pub invariant-loop-record : goal.invariant-loop-record
invariant-loop-record l = offsets_from l.last (map plain_new (drop l.record-index l.records)) ≡ offsets_from l.first (map plain_new l.records)
