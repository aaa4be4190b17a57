-- The least that may be dispatched, and the least that waits.
use Rattle.std.proofs.Common.{◌-◌, ap, refl, sym, ◌∙◌}
use Rattle.std.specs.Prelude.{◌^◌, unwrap_or}
use Rattle.pc_model.specs.Numbers.{least_of}
use Rattle.pc_retry.specs.Waiting.{offsets_of}
use Rattle.pc_laws.proofs.Lists.{or-left}
use Rattle.pc_state.proofs.RestLemmas.{goes_on-is, or-second}
use Rattle.pc_state.proofs.state.State.goes_on.Goals as goal

pub returns-then-is_upto : goal.returns-then-is_upto
returns-then-is_upto c = λ given h knows held idle.
    c.if-is_upto.true ∙ sym (or-left _ _ (sym c.is_upto.ensures ∙ c.if-is_upto.true))
    ∙ goes_on-is given h c.args.self.now c.args.part knows held
    (c.least_ready.ensures.singly) idle c.least_ready.result
    (least_of (offsets_of c.args.part c.args.self.now.retries.retries)) c.unwrap_or-upto.result
    c.least_ready.ensures.least refl
    (c.unwrap_or-upto.ensures ∙ ap (λ o. unwrap_or o (2 ^ 64 - 1)) (c.pressing.ensures given h knows held))

pub returns-else-is_upto : goal.returns-else-is_upto
returns-else-is_upto c = λ given h knows held idle.
    c.is_upto-else-is_upto.ensures ∙ or-second _ _ (sym c.is_upto.ensures ∙ c.if-is_upto.false)
    ∙ goes_on-is given h c.args.self.now c.args.part knows held
    (c.least_ready.ensures.singly) idle c.least_ready.result c.least.result c.unwrap_or-upto.result
    c.least_ready.ensures.least c.least.ensures
    (c.unwrap_or-upto.ensures ∙ ap (λ o. unwrap_or o (2 ^ 64 - 1)) (c.pressing.ensures given h knows held))
