-- A number of another part, or of this one.
use Rattle.std.proofs.Common.{ap, ◌++◌, rules}
use Rattle.pc_batch_writer.proofs.GeneratorLemmas.{log-other, put-either}
use Rattle.pc_batch_writer.proofs.generator.put_number.Goals as goal

pub returns-then-i-part-clause-goes_on : goal.returns-then-i-part-clause-goes_on
returns-then-i-part-clause-goes_on c = λ others. ap (λ l. c.args.log.now.items ++ l) (log-other c.args.part c.args.i _ c.args.number others c.if-i-part.true)

pub returns-clause-goes_on : goal.returns-clause-goes_on
returns-clause-goes_on c =
    put-either c.put_record.result c.args.part c.args.i c.args.number _ _ _ c.args.waiting.now.items _ c.in_ok-drawn.drawn c.if-i-part.false (search rules) c.requires c.in_ok-drawn.ensures c.put_record.ensures.full c.put_record.ensures.waits
