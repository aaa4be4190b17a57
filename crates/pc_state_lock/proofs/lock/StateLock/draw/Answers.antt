use Rattle.std.proofs.Common.{rules, ap, ◌∙◌, arith}
use Rattle.pc_state_lock.specs.Views.{Standing}
use Rattle.pc_state_lock.proofs.Steps.{draws}
use Rattle.pc_state_lock.proofs.lock.StateLock.draw.Goals as goal

pub compare_exchange-requires : goal.compare_exchange-requires
compare_exchange-requires g c =
    let rests = ap (λ (m : Standing g.row.V.Denot). m.0.stage) c.loop.invariant.knows
    ∙ c.requires.rests.stage in
    let small = c.peek-next.type_inv in
    let other = c.if-next.false in
    (search rules, search rules, draws _ _ _ _ _ _ _ rests (omega arith))
