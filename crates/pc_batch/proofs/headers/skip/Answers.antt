use Rattle.std.proofs.lemmas.Result.{err_from_is_err_and}
use Rattle.pc_batch.proofs.HeadersLemmas.{skips_one, skip_fails, skipped_all}
use Rattle.pc_batch.proofs.headers.skip.Goals as goal

pub loop-preserved : goal.loop-preserved
loop-preserved c =
    skips_one c.args.count c.loop.counter c.loop.reader.bytes c.header.new.reader.bytes _ _ c.loop-test.true c.in_ok-header.ensures c.loop.invariant

pub returns-in_err-header-clause-fault : goal.returns-in_err-header-clause-fault
returns-in_err-header-clause-fault c =
    let p = err_from_is_err_and c.from_residual.result c.from_residual.ensures.1 in
    rw (p.1, p.2) (skip_fails c.args.count c.loop.counter c.loop.reader.bytes _ _ c.loop-test.true c.in_err-header.ensures c.loop.invariant)

pub returns-clause-value : goal.returns-clause-value
returns-clause-value c = skipped_all c.args.count c.loop.counter c.loop.reader.bytes _ c.loop-test.false c.loop.invariant
