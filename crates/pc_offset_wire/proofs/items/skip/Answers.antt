use Rattle.std.proofs.lemmas.Result.{err_from_is_err_and}
use Rattle.pc_offset_wire.proofs.ItemLemmas.{skips_one, skip_fails, skipped_all}
use Rattle.pc_offset_wire.proofs.items.skip.Goals as goal

pub returns-in_err-after : goal.returns-in_err-after
returns-in_err-after g c =
    let p = err_from_is_err_and c.from_residual.result c.from_residual.ensures.1 in
    rw (p.1, p.2) (skip_fails g.T.WireItem.at c.args.count c.loop.counter c.loop.rest.now _ _ c.loop-test.true c.in_err-after.ensures c.loop.invariant)

pub loop-preserved : goal.loop-preserved
loop-preserved g c =
    skips_one g.T.WireItem.at c.args.count c.loop.counter c.loop.rest.now _ _ _ c.loop-test.true c.in_ok-after.ensures c.loop.invariant

pub returns : goal.returns
returns g c = skipped_all g.T.WireItem.at c.args.count c.loop.counter c.loop.rest.now _ c.loop-test.false c.loop.invariant
