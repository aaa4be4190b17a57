-- No more lines than bytes.
use Rattle.pc_lines.proofs.PieceLemmas.{length-lines_of-le}
use Rattle.pc_lines.proofs.cut.lines.Goals as goal

pub returns-clause-few : goal.returns-clause-few
returns-clause-few c = rw c.new.ensures (length-lines_of-le c.args.bytes.now)
