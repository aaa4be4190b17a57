use Rattle.std.proofs.Common.{rules, ap, ◌∙◌}
use Rattle.pc_state_lock.specs.Views.{Standing}
use Rattle.pc_state_lock.proofs.Steps.{joins, compares}
use Rattle.pc_state_lock.proofs.lock.StateLock.join.Goals as goal

pub join_seat-requires : goal.join_seat-requires
join_seat-requires g c = (search rules, search rules, search rules, search rules, joins _ _ _ _ _ _ _ c.requires.pass.told (search rules) (search rules))

pub load-requires : goal.load-requires
load-requires g c = (search rules, search rules, compares _ _ _ _ _ _)

pub returns-clause-turn : goal.returns-clause-turn
returns-clause-turn g c = λ was. record {
  ticket = was.ticket;
  stage = ap (λ (m : Standing g.row.V.Denot). m.0.stage) c.load.ensures.2.is ∙ (ap
      (λ (m : Standing g.row.V.Denot). m.0.stage) c.join_seat.ensures.2 ∙ was.stage);
  slots = ap (λ (m : Standing g.row.V.Denot). m.1) c.load.ensures.2.is ∙ (ap
      (λ (m : Standing g.row.V.Denot). m.1) c.join_seat.ensures.2 ∙ was.slots);
}
