-- Each digit is the last of the decimal that is left.
use Rattle.std.proofs.Common.{arith}
use Rattle.pc_lines.proofs.DecimalLemmas.{Written-none, Written-more, Written-last, Written-some}
use Rattle.pc_lines.proofs.number.write_digits.Goals as goal

pub loop-left-init : goal.loop-left-init
loop-left-init c = Written-none c.args.digits.now c.args.n (omega arith) (omega arith)

pub overflow_sub-start : goal.overflow_sub-start
overflow_sub-start c = Written-some _ _ c.loop-left.left c.args.n (omega arith) c.loop-left.invariant

pub loop-left-preserved : goal.loop-left-preserved
loop-left-preserved c = Written-more c.loop-left.digits c.loop-left.start c.loop-left.left c.args.n c.loop-left-test.true (omega arith) c.loop-left.invariant

pub overflow_sub-start-2 : goal.overflow_sub-start-2
overflow_sub-start-2 c = Written-some _ _ c.loop-left.left c.args.n (omega arith) c.loop-left.invariant

pub returns-clause-written : goal.returns-clause-written
returns-clause-written c = Written-last c.loop-left.digits c.loop-left.start c.loop-left.left c.args.n c.loop-left-test.false c.loop-left.invariant
