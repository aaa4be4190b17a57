use Rattle.std.proofs.Common.{refl, ap, sym, length, replicate, None, ◌∙◌}
use Rattle.pc_state.specs.declared.part.PartState.{PartState}
use Rattle.pc_state.proofs.QueryLemmas.{knows-start}
use Rattle.pc_state.proofs.state.State.new.Goals as goal

pub returns-clause-knows : goal.returns-clause-knows
returns-clause-knows c = λ given setup logs. knows-start given _ setup logs c.parts.ensures.rise
    (rw (← c.parts.ensures.count) c.parts.ensures.most) c.parts.ensures.few
    (c.in_ok-unheld.ensures.each ∙ ap (λ n. replicate {A = PartState} n (record { epoch = 0; held = None })) c.parts.ensures.count)
    c.new.ensures.order c.new.ensures.empty c.new-2.ensures c.new-3.ensures refl refl refl
    (c.in_ok-new.ensures given (ap length logs ∙ sym c.parts-2.ensures.count))
