-- Each turn asks the first of the parts that are left.
use Rattle.std.proofs.Common.{◌+◌, ◌-◌, ap, sym, ◌∙◌}
use Rattle.std.specs.Prelude.{Bool, ◌&&◌}
use Rattle.std.specs.List.{list_all, range_with_len}
use Rattle.pc_state.specs.Rest.{rests}
use Rattle.pc_state.proofs.PartsLemmas.{all-empty, all-step}
use Rattle.pc_state.proofs.RestLemmas.{at_rest-from}
use Rattle.pc_state.proofs.state.State.at_rest.Goals as goal

pub loop-part-init : goal.loop-part-init
loop-part-init c = λ given h knows. at_rest-from given h c.args.self.now knows
    c.parts-part-end.result c.parts-part-end.ensures.count

pub returns-then-not-rests : goal.returns-then-not-rests
returns-then-not-rests c = λ given h knows. sym (c.loop-part.invariant given h knows
    ∙ all-step (rests given h) c.loop-part.part c.parts-part-end.result c.loop-part-test.true
    ∙ ap (λ (b : Bool). b && list_all (rests given h) (range_with_len (c.loop-part.part + 1)
    (c.parts-part-end.result - (c.loop-part.part + 1))))
    (sym (c.rests.ensures given h knows) ∙ c.if-not-rests.true))

pub loop-part-preserved : goal.loop-part-preserved
loop-part-preserved c = λ given h knows. c.loop-part.invariant given h knows
    ∙ all-step (rests given h) c.loop-part.part c.parts-part-end.result c.loop-part-test.true
    ∙ ap (λ (b : Bool). b && list_all (rests given h) (range_with_len (c.loop-part.part + 1)
    (c.parts-part-end.result - (c.loop-part.part + 1))))
    (sym (c.rests.ensures given h knows) ∙ c.if-not-rests.false)

pub returns : goal.returns
returns c = λ given h knows. sym (c.loop-part.invariant given h knows
    ∙ all-empty (rests given h) c.loop-part.part c.parts-part-end.result c.loop-part-test.false)
