use Rattle.std.proofs.Common.{drop, map}
use Rattle.pc_offset_wire.proofs.WritingLemmas.{Leaves}
use Rattle.pc_offset_wire.proofs.put.put_items.Given as goal

abbrev pub invariant-loop-item : goal.invariant-loop-item
invariant-loop-item g l = Leaves g.T.PutItem.spelled g.T.PutItem.IsItem (map g.T.PutItem.plain l.items) l.fn.out.items l.out.items (map g.T.PutItem.plain (drop l.item-index l.items))
