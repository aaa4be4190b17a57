use Rattle.std.proofs.Common.{ap, length, rules}
use Rattle.pc_offset_wire.specs.Items.{items_left}
use Rattle.pc_offset_wire.proofs.ItemLemmas.{front-none, front-fails, front-step}
use Rattle.pc_offset_wire.proofs.items.ItemsIterator.next.Goals as goal

pub returns-then-self-eq0-clause-steps : goal.returns-then-self-eq0-clause-steps
unfolding items_left
returns-then-self-eq0-clause-steps g c =
    let none = front-none g.T.WireItem.at c.args.self.now.count c.args.self.now.bytes.now c.if-self-eq0.true in (none, none)

pub returns-in_default-clause-steps : goal.returns-in_default-clause-steps
unfolding items_left
returns-in_default-clause-steps g c =
    let none = front-fails g.T.WireItem.at c.args.self.now.count c.args.self.now.bytes.now c.in_default.field-0 c.in_default.ensures in
    (none, none)

pub returns-clause-steps : goal.returns-clause-steps
unfolding items_left
returns-clause-steps g c =
    let step = front-step g.T.WireItem.at c.args.self.now.count c.args.self.now.bytes.now _ _ c.if-self-eq0.false c.in-Ok.ensures in
    first_of (search rules, cc)

pub returns-clause-goes : goal.returns-clause-goes
unfolding items_left
returns-clause-goes g c =
    let step = front-step g.T.WireItem.at c.args.self.now.count c.args.self.now.bytes.now _ _ c.if-self-eq0.false c.in-Ok.ensures in
    let shorter = ap length step in
    search rules
