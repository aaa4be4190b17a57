-- The law is a lemma on summaries.
use Rattle.pc_print.proofs.SummaryLemmas.{summary-same}
use Rattle.pc_print.proofs.laws.one_summary_for_each_start.Goals as goal

pub returns : goal.returns
returns c = summary-same
