-- Each turn asks the first of the parts that are left.
use Rattle.std.proofs.Common.{◌+◌, ◌-◌, ℕ, Option, ap, sym, ◌∙◌}
use Rattle.std.specs.List.{range_with_len}
use Rattle.std.specs.Option.{option_map, option_or}
use Rattle.pc_model.specs.Numbers.{first_some}
use Rattle.pc_state.specs.Queries.{uncommitted_at}
use Rattle.pc_state.proofs.NextLemmas.{first-empty, first-step}
use Rattle.pc_state.proofs.UnfinishedLemmas.{uncommitted-from}
use Rattle.pc_state.proofs.state.State.first_uncommitted.Goals as goal

pub loop-part-init : goal.loop-part-init
loop-part-init c = λ given h knows. uncommitted-from given h c.args.self.now knows c.parts-part-end.result
    c.parts-part-end.ensures.count

pub returns-in-Some : goal.returns-in-Some
returns-in-Some c = λ given h knows. sym (c.loop-part.invariant given h knows
    ∙ first-step (uncommitted_at given h) c.loop-part.part c.parts-part-end.result c.loop-part-test.true
    ∙ ap (λ (o : Option ℕ). option_or (option_map (λ n. (c.loop-part.part, n)) o)
    (first_some (uncommitted_at given h) (range_with_len (c.loop-part.part + 1)
    (c.parts-part-end.result - (c.loop-part.part + 1)))))
    (sym (c.in-Some.ensures given h knows)))

pub loop-part-preserved : goal.loop-part-preserved
loop-part-preserved c = λ given h knows. c.loop-part.invariant given h knows
    ∙ first-step (uncommitted_at given h) c.loop-part.part c.parts-part-end.result c.loop-part-test.true
    ∙ ap (λ (o : Option ℕ). option_or (option_map (λ n. (c.loop-part.part, n)) o)
    (first_some (uncommitted_at given h) (range_with_len (c.loop-part.part + 1)
    (c.parts-part-end.result - (c.loop-part.part + 1)))))
    (sym (c.in_default.ensures given h knows))

pub returns : goal.returns
returns c = λ given h knows. sym (c.loop-part.invariant given h knows
    ∙ first-empty (uncommitted_at given h) c.loop-part.part c.parts-part-end.result c.loop-part-test.false)
