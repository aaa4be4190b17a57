-- Both laws are lemmas on texts.
use Rattle.pc_print.proofs.TextLemmas.{history_of-takes, history_of-text_of}
use Rattle.pc_print.proofs.laws.one_text_for_each_history.Goals as goal

pub returns-clause-again : goal.returns-clause-again
returns-clause-again c = history_of-text_of

pub returns-clause-only : goal.returns-clause-only
returns-clause-only c = history_of-takes
