use Rattle.std.proofs.Common.{sym, subst}
use Rattle.std.proofs.lemmas.Result.{err_from_is_err_and}
use Rattle.pc_offset_wire.proofs.WritingLemmas.{left-item, left-none, Leaves-all, Leaves-one, Leaves-none, Leaves-fails}
use Rattle.pc_offset_wire.proofs.put.put_items.Goals as goal

pub loop-item-init : goal.loop-item-init
loop-item-init g c = Leaves-all _ _ _ _

pub put-requires : goal.put-requires
put-requires g c =
    subst g.T.PutItem.IsPutable (sym c.item-item.is) (c.requires c.loop-item.item-index _ c.loop-item-test.true)

pub loop-item-preserved : goal.loop-item-preserved
loop-item-preserved g c =
    let left = left-item g.T.PutItem.plain c.args.items.now c.loop-item.item-index c.item-item.result c.loop-item-test.true c.item-item.is in
    Leaves-one _ _ _ _ _ _ _ _ _ left c.in_ok-put.ensures c.loop-item.invariant

pub returns-in_err-put : goal.returns-in_err-put
returns-in_err-put g c =
    let p = err_from_is_err_and c.from_residual.result c.from_residual.ensures.1 in
    let left = left-item g.T.PutItem.plain c.args.items.now c.loop-item.item-index c.item-item.result c.loop-item-test.true c.item-item.is in
    rw (p.1, p.2) (Leaves-fails _ _ _ _ _ _ _ _ _ c.put.new.out.items c.put.new.out.items left c.in_err-put.ensures c.loop-item.invariant)

pub returns : goal.returns
returns g c =
    Leaves-none _ _ _ _ _ _ (left-none g.T.PutItem.plain c.args.items.now c.loop-item.item-index c.loop-item-test.false) c.loop-item.invariant
