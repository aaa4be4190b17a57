-- Where no part is the least, all are finished.
use Rattle.std.proofs.Common.{◌≡◌, ℕ, List, Option, Some, None, refl, sym, ◌∙◌}
use Rattle.pc_model.specs.declared.event.Event.{Event}
use Rattle.pc_model.specs.Given.{Given}
use Rattle.pc_model.specs.Known.{position_of}
use Rattle.pc_state.specs.declared.queries.Unfinished.{Unfinished}
use Rattle.pc_state.specs.declared.queries.Unfinished.TheVariants.{Uncommitted}
use Rattle.pc_state.specs.Queries.{first_uncommitted, first_unfinished, unfinished_part}
use Rattle.pc_state.proofs.UnfinishedLemmas.{all-finished, uncommitted-held}
use Rattle.pc_state.proofs.state.State.unfinished.Goals as goal

pub returns-in_err-part-clause-finished : goal.returns-in_err-part-clause-finished
returns-in_err-part-clause-finished c = λ none given h knows. all-finished given h
    (sym (c.first_unfinished.ensures given h knows) ∙ c.in_default.is)
    (sym (c.first_uncommitted.ensures given h knows) ∙ c.in_err-part.was)

-- the second reason stands where there is none before it
second : (given : Given) (h : List Event) (p stored position : ℕ)
    → first_unfinished given h ≡ None → Some (p, stored) ≡ first_uncommitted given h
    → position ≡ position_of given h p
    → ◌≡◌ {A = Option Unfinished} (Some (Uncommitted p stored position)) (unfinished_part given h)
second given h p stored position none is at = rw (none, ← is, at) refl

pub returns-clause-reason : goal.returns-clause-reason
returns-clause-reason c = λ given h knows.
    let is = sym (c.in_ok-part.was) ∙ c.first_uncommitted.ensures given h knows in
    second given h c.in_ok-part.part c.in_ok-part.stored c.position.result
    (sym (c.first_unfinished.ensures given h knows) ∙ c.in_default.is) is
    (c.position.ensures given h knows
    (uncommitted-held given h c.in_ok-part.part c.in_ok-part.stored is))
