-- A record that is too long makes the records too long.
use Rattle.std.proofs.Common.{pos, None, [], w64}
use Rattle.std.proofs.lemmas.Int.{to_z-of_z}
use Rattle.std.proofs.lemmas.Result.{err_from_is_err_and}
use Rattle.pc_batch_writer.specs.Writing.{plain_new, record_spelling}
use Rattle.pc_batch_writer.proofs.PutLemmas.{Fails-more, item-le}
use Rattle.pc_batch_writer.proofs.put.put_records.Goals as goal

pub returns-in_err-put_record : goal.returns-in_err-put_record
returns-in_err-put_record c =
    let p = err_from_is_err_and c.from_residual.result c.from_residual.ensures.1 in
    let e = to_z-of_z w64 c.args.first c.ranges.first in
    let text = rw e at c.loop-record.invariant.text in
    let fails = rw e at c.in_err-put_record.ensures in
    rw (p.1, p.2) (Fails-more _ _ _ (item-le (record_spelling c.args.base c.args.first) plain_new c.args.records.now c.loop-record.record-index (record { offset = 0; time = pos 0; key = None; value = None; headers = record { ref_ptr = (0, 0); now = [] } }) c.loop-record-test.true _ _ text c.loop-record.invariant.more) fails)
