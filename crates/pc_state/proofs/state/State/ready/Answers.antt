-- The least ready offset, unless the part is blocked and its high does not lie above it.
use Rattle.std.proofs.Common.{◌∙◌, Bool, cond, Some, None, sym, ap}
use Rattle.std.proofs.lemmas.Bool.{le-ltb, lt-ltb}
use Rattle.pc_state.proofs.ReadyLemmas.{least-eligible, none-eligible}
use Rattle.pc_state.proofs.state.State.ready.Goals as goal

pub returns-in_err-offset : goal.returns-in_err-offset
returns-in_err-offset c = λ given h knows. c.from_residual.ensures
    ∙ sym (none-eligible given h c.args.self.now c.args.part knows c.in_err-offset.ensures.least)

pub returns-in-Some : goal.returns-in-Some
returns-in-Some c = λ given h knows. sym
    (least-eligible given h c.args.self.now c.args.part c.in_ok-offset.offset (Some c.in-Some.high)
    knows c.in_ok-offset.ensures.least (λ held. c.in-Some.ensures given h knows held)
    ∙ ap (λ (b : Bool). cond b (Some c.in_ok-offset.offset) None)
    (le-ltb c.in_ok-offset.offset c.in-Some.high c.if-high-offset.true))

pub returns-in_default : goal.returns-in_default
returns-in_default c = λ given h knows. sym
    (least-eligible given h c.args.self.now c.args.part c.in_ok-offset.offset (Some c.in-Some.high)
    knows c.in_ok-offset.ensures.least (λ held. c.in-Some.ensures given h knows held)
    ∙ ap (λ (b : Bool). cond b (Some c.in_ok-offset.offset) None)
    (lt-ltb c.in_ok-offset.offset c.in-Some.high c.if-high-offset.false))

pub returns-in_default-2 : goal.returns-in_default-2
returns-in_default-2 c = λ given h knows. sym
    (least-eligible given h c.args.self.now c.args.part c.in_ok-offset.offset None
    knows c.in_ok-offset.ensures.least (λ held. c.in_default.ensures given h knows held))
