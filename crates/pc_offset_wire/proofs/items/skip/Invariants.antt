use Rattle.std.proofs.Common.{◌≡◌, ◌-◌}
use Rattle.pc_offset_wire.specs.Items.{after_items}
use Rattle.pc_offset_wire.proofs.items.skip.Given as goal

abbrev pub invariant-loop : goal.invariant-loop
invariant-loop g l = after_items g.T.WireItem.at (l.count - l.counter) l.rest ≡ after_items g.T.WireItem.at l.count l.bytes
