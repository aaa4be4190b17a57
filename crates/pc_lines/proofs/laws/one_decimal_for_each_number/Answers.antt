-- Both laws are lemmas on decimals.
use Rattle.pc_lines.proofs.DecimalLemmas.{number_of-decimal, decimal-number_of}
use Rattle.pc_lines.proofs.laws.one_decimal_for_each_number.Goals as goal

pub returns-clause-again : goal.returns-clause-again
returns-clause-again c = number_of-decimal

pub returns-clause-only : goal.returns-clause-only
returns-clause-only c = decimal-number_of
