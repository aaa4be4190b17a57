-- One number more.
use Rattle.pc_batch_writer.proofs.GeneratorLemmas.{fails-step, fails-done}
use Rattle.pc_batch_writer.proofs.generator.fail_rules.Goals as goal

pub loop-i-preserved : goal.loop-i-preserved
loop-i-preserved c = fails-step c.args.records c.loop-i.i c.loop-i.number c.next_number-number.result _ _ _ c.loop-i-test.true c.next_number-number.ensures c.in_ok-put_fail.ensures c.loop-i.invariant

pub returns : goal.returns
returns c = fails-done c.args.records c.loop-i.i c.loop-i.number _ _ c.loop-i-test.false c.loop-i.invariant
