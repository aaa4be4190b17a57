-- The fields, and the records.
use Rattle.std.proofs.Common.{◌≡◌, ◌++◌, ◌-◌, [], fold, map, length, w64, rules, arith}
use Rattle.std.proofs.lemmas.Int.{to_z-of_z}
use Rattle.std.proofs.lemmas.Result.{err_from_is_err_and}
use Rattle.std.specs.Int.{int_max}
use Rattle.pc_batch_writer.specs.Writing.{plain_new, span_spelling, producer_spelling}
use Rattle.pc_batch_writer.proofs.WriteLemmas.{covered-put, covered-fails, covered-many}
use Rattle.pc_batch_writer.proofs.write.covered.Goals as goal

pub returns-then-records-gt-LEN_MAX-clause-gives : goal.returns-then-records-gt-LEN_MAX-clause-gives
returns-then-records-gt-LEN_MAX-clause-gives c = covered-many c.args.base c.args.last c.args.first c.args.records.now (omega arith)

pub returns-in_err-put_records-clause-gives : goal.returns-in_err-put_records-clause-gives
returns-in_err-put_records-clause-gives c =
    let p = err_from_is_err_and c.from_residual-in_err-put_records.result c.from_residual-in_err-put_records.ensures.1 in
    let fails = rw (to_z-of_z w64 c.args.first c.ranges.first) at c.in_err-put_records.ensures in
    rw (p.1, p.2) (covered-fails _ c.args.base c.args.last c.args.first (map plain_new c.args.records.now) fails)

pub returns-clause-gives : goal.returns-clause-gives
returns-clause-gives c =
    let e = to_z-of_z w64 c.args.first c.ranges.first in
    let none : c.new-out.result.items ≡ [] = search rules in
    let wide : c.put_span.new.out.items ≡ c.new-out.result.items ++ span_spelling (c.args.last - c.args.base) c.args.first c.greatest_time-greatest.result = search rules in
    let most : c.greatest_time-greatest.result ≡ fold int_max c.args.first (map (λ r. r.time) c.args.records.now) = search rules in
    let many : c.put_producer.new.out.items ≡ c.put_span.new.out.items ++ producer_spelling (length c.args.records.now) = search rules in
    let records = rw e at c.in_ok-put_records.ensures in
    covered-put _ _ _ _ c.args.base c.args.last c.args.first c.greatest_time-greatest.result c.args.records.now none wide most many records
