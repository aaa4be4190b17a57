use Rattle.std.proofs.Common.{inl, arith}
use Rattle.pc_offset_wire.specs.Items.{items_left}
use Rattle.pc_offset_wire.proofs.ItemLemmas.{length-front_items}
use Rattle.pc_offset_wire.proofs.items.Items.len.Goals as goal

pub count-requires-clause-fits : goal.count-requires-clause-fits
unfolding items_left
count-requires-clause-fits g c =
    let left = c.again.result in
    let few = length-front_items g.T.WireItem.at left.count left.bytes.now in
    inl (omega arith)
