use Rattle.std.proofs.lemmas.Result.{err_from_is_err_and}
use Rattle.pc_offset_wire.specs.Items.{items_left}
use Rattle.pc_offset_wire.proofs.ItemLemmas.{array-uncounted, array-fails, array-is}
use Rattle.pc_offset_wire.proofs.items.array.Goals as goal

pub returns-in_err-count : goal.returns-in_err-count
returns-in_err-count g c =
    let p = err_from_is_err_and c.from_residual.result c.from_residual.ensures.1 in
    rw (p.1, p.2) (array-uncounted g.T.WireItem.at c.args.bytes.now _ c.in_err-count.ensures)

pub returns-in_err-rest : goal.returns-in_err-rest
returns-in_err-rest g c =
    let p = err_from_is_err_and c.from_residual-in_err-rest.result c.from_residual-in_err-rest.ensures.1 in
    rw (p.1, p.2) (array-fails g.T.WireItem.at c.args.bytes.now _ _ _ c.in_ok-count.ensures c.in_err-rest.ensures)

pub returns : goal.returns
unfolding items_left
returns g c = array-is g.T.WireItem.at c.args.bytes.now _ _ _ c.in_ok-count.ensures c.in_ok-rest.ensures
