-- The engine leaves a legal history, of what the run was given.
use Rattle.std.proofs.Common.{◌≡◌, ℕ, true, subst, sym, ◌∙◌}
use Rattle.pc_model.specs.Given.{Given, has_log}
use Rattle.pc_model.specs.History.{History}
use Rattle.pc_model.specs.Lawful.{IsLegal}
use Rattle.pc_model.specs.Stored.{may_store}
use Rattle.pc_laws.specs.Lists.{In}
use Rattle.pc_offset_client.specs.Client.{kept_for}
use Rattle.own_task.specs.Consume.{IsConsumed, given_in}
use Rattle.own_task.proofs.ConsumeLemmas.{consumed}
use Rattle.own_task.proofs.consume.Goals as goal

pub returns : goal.returns
returns c =
    subst (λ (given : Given). IsConsumed given c.into_parts-journal.result.1
    c.into_parts-journal.result.0.events) (c.work-end.ensures ∙ c.in_ok-engine.ensures.given)
    (consumed (given_in c.work-end.new.engine) c.into_parts-journal.result.1
    c.into_parts-journal.result.0.events c.into_parts-journal.ensures.told
    (subst (λ (j : History). IsLegal (given_in c.work-end.new.engine) j.events)
    (sym c.into_parts-journal.ensures.journal) c.into_parts-journal.ensures.legal)
    (subst (λ (j : History). (p : ℕ) → has_log (given_in c.work-end.new.engine) p ≡ true
    → In (kept_for c.into_parts-journal.result.1 p)
    (may_store (given_in c.work-end.new.engine) j.events p))
    (sym c.into_parts-journal.ensures.journal)
    (subst (λ link. (p : ℕ) → has_log (given_in c.work-end.new.engine) p ≡ true
    → In (kept_for link p)
    (may_store (given_in c.work-end.new.engine) c.work-end.new.engine.journal.events p))
    (sym c.into_parts-journal.ensures.link)
    (c.into_parts-journal.ensures.stored c.into_parts-journal.ensures.told))))
