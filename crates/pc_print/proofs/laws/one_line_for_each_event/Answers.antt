-- Both laws are lemmas on lines.
use Rattle.pc_print.proofs.ReadingLemmas.{event_of-takes, event_of-bare_line_of}
use Rattle.pc_print.proofs.laws.one_line_for_each_event.Goals as goal

pub returns-clause-again : goal.returns-clause-again
returns-clause-again c = event_of-bare_line_of

pub returns-clause-only : goal.returns-clause-only
returns-clause-only c = event_of-takes
