-- The lines of the records, and the end behind them.
use Rattle.std.proofs.lemmas.Result.{on_ok_weaker}
use Rattle.pc_print.specs.HeldParts.{plain_first}
use Rattle.pc_print.proofs.SummaryLemmas.{part-is}
use Rattle.pc_print.proofs.summary.put_part.Goals as goal

pub returns-clause-ok : goal.returns-clause-ok
returns-clause-ok c = on_ok_weaker c.put_line.result
    (part-is c.args.work (plain_first c.args.start.now) c.args.part c.in_ok-passed.passed _ _ _ _ _ _
    c.in_ok-passed.ensures c.in_ok-passed.ensures.position c.in_ok-end.ensures.ok c.in_ok-end.ensures.end) (rw c.from.ensures at c.put_line.ensures.ok)
