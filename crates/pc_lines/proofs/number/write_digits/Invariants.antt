-- The decimal of what is left stands before the digits that are written.
use Rattle.pc_lines.proofs.DecimalLemmas.{Written}
use Rattle.pc_lines.proofs.number.write_digits.Given as goal

abbrev pub invariant-loop-left : goal.invariant-loop-left
invariant-loop-left l = Written l.digits l.start l.left l.n

abbrev pub decreases-loop-left : goal.decreases-loop-left
decreases-loop-left l = l.left
