-- Each log reads as the records of its part.
use Rattle.std.proofs.Common.{arith}
use Rattle.pc_batch_writer.proofs.GeneratedLogs.{generated-reads, some-reads}
use Rattle.pc_batch_writer.proofs.generator.generate.Goals as goal

pub returns-clause-reads : goal.returns-clause-reads
returns-clause-reads c = λ part lt.
    some-reads (λ log. log.items) _ _ _ (c.loop-part.invariant.each part (omega arith)) (generated-reads c.args.seed c.args.records part (omega arith))
