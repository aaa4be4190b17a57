-- The greatest of all is that of the greatest so far and those that are left.
use Rattle.std.proofs.Common.{◌≡◌, ◌<◌, ℕ, map, drop, fold, slice_index_or, FitsSigned}
use Rattle.std.specs.Int.{int_max, w64}
use Rattle.pc_batch_writer.specs.declared.new_record.NewRecord.{NewRecord}
use Rattle.pc_batch_writer.proofs.checks.greatest_time.Given as goal

abbrev pub invariant-loop-record : goal.invariant-loop-record
invariant-loop-record l = record {
  greatest : fold int_max l.greatest (map (λ r. r.time) (drop l.record-index l.records)) ≡ fold int_max l.first (map (λ r. r.time) l.records);
  fit : (k : ℕ) (d : NewRecord) → k < l.record-index → FitsSigned w64 (slice_index_or l.records k d).time;
}
