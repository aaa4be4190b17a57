-- One number more.
use Rattle.std.proofs.Common.{map, rules}
use Rattle.pc_batch_writer.specs.Generator.{plain_drawn}
use Rattle.pc_batch_writer.proofs.GeneratorLemmas.{log-step, log-done}
use Rattle.pc_batch_writer.proofs.generator.part_log.Goals as goal

pub loop-i-preserved : goal.loop-i-preserved
loop-i-preserved c = record {
  text = log-step c.args.part c.args.records c.loop-i.i c.loop-i.number c.next_number-number.result _ _ _ _ _ c.loop-i-test.true c.next_number-number.ensures c.in_ok-put_number.ensures.goes_on c.loop-i.invariant.text;
  few = c.in_ok-put_number.ensures.few;
}

pub returns : goal.returns
returns c =
    log-done c.args.part c.args.records c.loop-i.i c.loop-i.number c.loop-i.log.items _ _ (map plain_drawn c.loop-i.waiting.items) c.loop-i-test.false (search rules) c.loop-i.invariant.text
