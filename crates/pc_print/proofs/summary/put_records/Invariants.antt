-- The records that were put, and those that are left.
use Rattle.pc_print.proofs.SummaryLemmas.{IsPutting}
use Rattle.pc_print.proofs.summary.put_records.Given as goal

abbrev pub invariant-loop-item : goal.invariant-loop-item
invariant-loop-item l = IsPutting l.work l.part l.passed l.fn.out.items l.fn.records.left l.out.items l.end l.item-iterator.left
