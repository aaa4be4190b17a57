-- The number is that of the digits so far.
use Rattle.pc_lines.proofs.DecimalLemmas.{Front}
use Rattle.pc_lines.proofs.number.number.Given as goal

abbrev pub invariant-loop-digit : goal.invariant-loop-digit
invariant-loop-digit l = Front l.digits l.digit-index l.number
