-- What was put and what is left are all.
use Rattle.std.proofs.Common.{◌≡◌, ◌≤◌, ◌++◌, length, map, drop}
use Rattle.std.specs.List.{flat_map}
use Rattle.pc_batch_writer.specs.Writing.{plain_new, record_spelling}
use Rattle.pc_batch_writer.proofs.put.put_records.Given as goal

abbrev pub invariant-loop-record : goal.invariant-loop-record
invariant-loop-record l = record {
  text : l.out.items ++ flat_map (record_spelling l.base l.first) (map plain_new (drop l.record-index l.records)) ≡ l.fn.out.items ++ flat_map (record_spelling l.base l.first) (map plain_new l.records);
  more : length l.fn.out.items ≤ length l.out.items;
}
