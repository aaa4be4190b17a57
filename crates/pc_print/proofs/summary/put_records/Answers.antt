-- One record more: it is put, or passed over.
use Rattle.std.proofs.Common.{sym}
use Rattle.pc_print.proofs.SummaryLemmas.{putting-passed, putting-put}
use Rattle.pc_batch.specs.Record.{plain}
use Rattle.pc_print.proofs.summary.put_records.Goals as goal
use Rattle.pc_print.proofs.summary.put_records.Goals.{then-not-has+in_ok-put_record, else-not-has}

pub loop-item-preserved : goal.loop-item-preserved
loop-item-preserved c = elim c.if-not-has.branch [
  | then-not-has+in_ok-put_record w ↦ rw w.out-is (putting-put _ _ _ _ _ _ _ _ (plain c.in-Some.item) _ c.loop-item.invariant
      c.in-Some.ensures.steps.0 _ (sym w.if-not-has.ensures) w.in_ok-put_record.ensures.ok)
  | else-not-has w ↦ rw w.out-is (putting-passed _ _ _ _ _ _ _ _ (plain c.in-Some.item) _ c.loop-item.invariant
      c.in-Some.ensures.steps.0 (sym w.if-not-has.ensures))
]
