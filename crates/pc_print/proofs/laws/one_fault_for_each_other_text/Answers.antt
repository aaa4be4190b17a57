-- The law is a lemma on texts.
use Rattle.pc_print.proofs.TextLemmas.{history_of-bad}
use Rattle.pc_print.proofs.laws.one_fault_for_each_other_text.Goals as goal

pub returns : goal.returns
returns c = history_of-bad
