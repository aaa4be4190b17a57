-- The lines of the held parts so far.
use Rattle.std.proofs.Common.{◌≡◌, ◌++◌}
use Rattle.pc_print.proofs.SummaryLemmas.{lines_upto}
use Rattle.pc_print.proofs.summary.put_parts.Given as goal

abbrev pub invariant-loop-part : goal.invariant-loop-part
invariant-loop-part l = l.out.items ≡ l.fn.out.items ++ lines_upto l.setup l.logs l.journal.events l.part
