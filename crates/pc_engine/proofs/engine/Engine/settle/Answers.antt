-- A result that came too late is lawful.
use Rattle.std.proofs.Common.{◌∙◌, ap, refl, sym}
use Rattle.pc_offset_client.specs.Client.{kept_for}
use Rattle.pc_task.specs.Results.{finished_job}
use Rattle.pc_engine.specs.Engine.{given_of}
use Rattle.pc_engine.proofs.EngineSettle.{stale-given, stale-keeps}
use Rattle.pc_engine.proofs.engine.Engine.settle.Goals as goal

pub invariant_of-self : goal.invariant_of-self
invariant_of-self g c = stale-keeps c.self.inside.state c.forget.new.self
    c.self.inside.journal.events c.push.new.self.events (g.L.Link.is_told c.self.inside.client.link)
    (g.T.Task.outcome c.self.inside.task.now) (kept_for (g.L.Link.store c.self.inside.client.link)) c.self.inside.journal.room
    c.push.new.self.room c.self.invariant (finished_job c.args.done)
    ((c.if-not-expects.ensures _ _ c.self.invariant.knows).0 refl) c.push.ensures.room (sym c.self.invariant.knows.ledger.ended ∙ c.if-self.false)
    (sym (c.if-not-is_current.ensures _ _ c.self.invariant.knows)) c.forget.ensures
    c.push.ensures.events

pub returns-then-not-is_current-clause-keeps : goal.returns-then-not-is_current-clause-keeps
returns-then-not-is_current-clause-keeps g c = record {
  given = stale-given c.self.inside.state c.forget.new.self
      c.self.inside.journal.events c.push.new.self.events (g.L.Link.is_told c.self.inside.client.link)
      (g.T.Task.outcome c.self.inside.task.now) (kept_for (g.L.Link.store c.self.inside.client.link)) c.self.inside.journal.room
      c.push.new.self.room c.self.invariant (finished_job c.args.done)
      ((c.if-not-expects.ensures _ _ c.self.invariant.knows).0 refl) c.push.ensures.room (sym c.self.invariant.knows.ledger.ended ∙ c.if-self.false)
      (sym (c.if-not-is_current.ensures _ _ c.self.invariant.knows)) c.forget.ensures
      c.push.ensures.events
      ∙ ap (λ v. given_of g.T.Task.outcome v) c.self.view_is;
  task = ap (λ v. v.task) c.self.view_is;
  link = ap (λ v. v.link) c.self.view_is;
}
