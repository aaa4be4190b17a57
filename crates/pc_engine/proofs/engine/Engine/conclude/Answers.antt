-- The job's success, or its failure, is lawful.
use Rattle.std.proofs.Common.{ap, ◌∙◌, ℕ, List}
use Rattle.pc_model.specs.Retry.{ready_after}
use Rattle.pc_offset_client.specs.Client.{kept_for}
use Rattle.pc_task.specs.Results.{finished_job}
use Rattle.pc_engine.specs.Engine.{given_of}
use Rattle.pc_engine.proofs.EngineSettle.{asks-success, attempt-some, due-same, delays-some, failed-given, failed-keeps, settled-given, settled-keeps}
use Rattle.pc_engine.proofs.engine.Engine.conclude.Goals as goal

pub succeed-requires : goal.succeed-requires
succeed-requires g c = asks-success _ c.self.inside.journal.events c.self.inside.state
    (finished_job c.args.done) c.self.invariant.knows (rw (← c.self.view_is) at c.requires.expected)
    (rw (← c.self.view_is) at c.requires.current)

pub fail-requires : goal.fail-requires
fail-requires g c = asks-success _ c.self.inside.journal.events c.self.inside.state
    (finished_job c.args.done) c.self.invariant.knows (rw (← c.self.view_is) at c.requires.expected)
    (rw (← c.self.view_is) at c.requires.current)

pub ready_after-ready_at-requires-clause-some : goal.ready_after-ready_at-requires-clause-some
ready_after-ready_at-requires-clause-some g c = rw c.as_slice-delays.ensures
    (delays-some c.self.inside.state.setup.now)

pub ready_after-ready_at-requires-clause-first : goal.ready_after-ready_at-requires-clause-first
ready_after-ready_at-requires-clause-first g c = attempt-some _ c.self.inside.journal.events
    c.self.invariant.knows.legal (finished_job c.args.done)
    (rw (← c.self.view_is) at c.requires.expected)

pub invariant_of-self : goal.invariant_of-self
invariant_of-self g c = settled-keeps c.self.inside.state c.succeed.new.self
    c.self.inside.journal.events c.push.new.self.events (g.L.Link.is_told c.self.inside.client.link)
    (g.T.Task.outcome c.self.inside.task.now) (kept_for (g.L.Link.store c.self.inside.client.link)) c.self.inside.journal.room
    c.push.new.self.room c.self.invariant (finished_job c.args.done)
    (rw (← c.self.view_is) at c.requires.expected) c.push.ensures.room (rw (← c.self.view_is) at c.requires.runs)
    (rw (← c.self.view_is) at c.requires.current) c.in-Good.answer c.args.done.outcome
    (due-same _ _ (finished_job c.args.done) _ (rw (← c.self.view_is) at c.requires.same) c.args.done.by_task) c.in-Good.is c.succeed.ensures c.push.ensures.events

pub returns-in-Good-clause-keeps : goal.returns-in-Good-clause-keeps
returns-in-Good-clause-keeps g c = record {
  given = settled-given c.self.inside.state c.succeed.new.self
      c.self.inside.journal.events c.push.new.self.events (g.L.Link.is_told c.self.inside.client.link)
      (g.T.Task.outcome c.self.inside.task.now) (kept_for (g.L.Link.store c.self.inside.client.link)) c.self.inside.journal.room
      c.push.new.self.room c.self.invariant (finished_job c.args.done)
      (rw (← c.self.view_is) at c.requires.expected) c.push.ensures.room (rw (← c.self.view_is) at c.requires.runs)
      (rw (← c.self.view_is) at c.requires.current) c.in-Good.answer c.args.done.outcome
      (due-same _ _ (finished_job c.args.done) _ (rw (← c.self.view_is) at c.requires.same) c.args.done.by_task) c.in-Good.is c.succeed.ensures c.push.ensures.events
      ∙ ap (λ v. given_of g.T.Task.outcome v) c.self.view_is;
  task = ap (λ v. v.task) c.self.view_is;
  link = ap (λ v. v.link) c.self.view_is;
}

pub invariant_of-self-in-Bad : goal.invariant_of-self-in-Bad
invariant_of-self-in-Bad g c = failed-keeps c.self.inside.state c.fail.new.self
    c.self.inside.journal.events c.push-in-Bad.new.self.events (g.L.Link.is_told c.self.inside.client.link)
    (g.T.Task.outcome c.self.inside.task.now) (kept_for (g.L.Link.store c.self.inside.client.link)) c.self.inside.journal.room
    c.push-in-Bad.new.self.room c.self.invariant (finished_job c.args.done)
    (rw (← c.self.view_is) at c.requires.expected) c.push-in-Bad.ensures.room (rw (← c.self.view_is) at c.requires.runs)
    (rw (← c.self.view_is) at c.requires.current) c.in-Bad.code c.ready_after-ready_at.result
    c.args.done.outcome (due-same _ _ (finished_job c.args.done) _ (rw (← c.self.view_is) at c.requires.same) c.args.done.by_task) c.in-Bad.is
    (c.ready_after-ready_at.ensures ∙ ap (λ (ds : List ℕ). ready_after ds c.args.done.attempt
    c.self.inside.state.clock) c.as_slice-delays.ensures)
    c.fail.ensures c.push-in-Bad.ensures.events

pub returns-in-Bad-clause-keeps : goal.returns-in-Bad-clause-keeps
returns-in-Bad-clause-keeps g c = record {
  given = failed-given c.self.inside.state c.fail.new.self
      c.self.inside.journal.events c.push-in-Bad.new.self.events (g.L.Link.is_told c.self.inside.client.link)
      (g.T.Task.outcome c.self.inside.task.now) (kept_for (g.L.Link.store c.self.inside.client.link)) c.self.inside.journal.room
      c.push-in-Bad.new.self.room c.self.invariant (finished_job c.args.done)
      (rw (← c.self.view_is) at c.requires.expected) c.push-in-Bad.ensures.room (rw (← c.self.view_is) at c.requires.runs)
      (rw (← c.self.view_is) at c.requires.current) c.in-Bad.code c.ready_after-ready_at.result
      c.args.done.outcome (due-same _ _ (finished_job c.args.done) _ (rw (← c.self.view_is) at c.requires.same) c.args.done.by_task) c.in-Bad.is
      (c.ready_after-ready_at.ensures ∙ ap (λ (ds : List ℕ). ready_after ds c.args.done.attempt
      c.self.inside.state.clock) c.as_slice-delays.ensures)
      c.fail.ensures c.push-in-Bad.ensures.events
      ∙ ap (λ v. given_of g.T.Task.outcome v) c.self.view_is;
  task = ap (λ v. v.task) c.self.view_is;
  link = ap (λ v. v.link) c.self.view_is;
}
