-- Both laws are lemmas on escapes.
use Rattle.pc_lines.proofs.EscapeLemmas.{unescaped_of-escaped_of, escaped_of-unescaped_of}
use Rattle.pc_lines.proofs.laws.one_escaped_text_for_each_bytes.Goals as goal

pub returns-clause-again : goal.returns-clause-again
returns-clause-again c = unescaped_of-escaped_of

pub returns-clause-only : goal.returns-clause-only
returns-clause-only c = escaped_of-unescaped_of
