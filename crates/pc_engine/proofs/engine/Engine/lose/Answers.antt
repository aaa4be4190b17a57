-- A part that may be given back is held, and its loss is lawful.
use Rattle.std.proofs.Common.{◌∙◌, ap, subst, Ok}
use Rattle.pc_offset_client.specs.Client.{kept_for}
use Rattle.pc_engine.specs.Engine.{given_of}
use Rattle.pc_engine.specs.Effect.{Does, lose_step}
use Rattle.pc_engine.proofs.EngineRelease.{lost-does, lost-given, lost-keeps, may-release}
use Rattle.pc_engine.proofs.EngineStep.{given_to}
use Rattle.pc_engine.proofs.engine.Engine.lose.Goals as goal

pub release-epoch-requires : goal.release-epoch-requires
release-epoch-requires g c = (
  given_to c.self.inside.state c.self.inside.journal.events
      (g.L.Link.is_told c.self.inside.client.link)
      (g.T.Task.outcome c.self.inside.task.now) (kept_for (g.L.Link.store c.self.inside.client.link)),
  c.self.inside.journal.events,
  c.self.invariant.knows,
  (may-release (given_to c.self.inside.state c.self.inside.journal.events
      (g.L.Link.is_told c.self.inside.client.link)
      (g.T.Task.outcome c.self.inside.task.now) (kept_for (g.L.Link.store c.self.inside.client.link)))
      c.self.inside.journal.events c.args.part 1 _
      (rw (← c.self.view_is) at c.in_ok-may_release.ensures)).0,
)

pub invariant_of-self-2 : goal.invariant_of-self-2
invariant_of-self-2 g c =
    let ok = rw (← c.self.view_is) at c.in_ok-may_release.ensures in
    let knows = c.self.invariant.knows in
    lost-keeps c.self.inside.state c.self.inside.journal.events
    (g.L.Link.is_told c.self.inside.client.link)
    (g.T.Task.outcome c.self.inside.task.now) (kept_for (g.L.Link.store c.self.inside.client.link))
    c.self.inside.journal.room c.self.invariant c.release-epoch.new.self c.reserve.new.self.events
    c.push.new.self.events c.args.part c.release-epoch.result _ ok
    (c.release-epoch.ensures.epoch _ _ knows) (c.release-epoch.ensures.lost _ _ knows)
    c.in_ok-reserve.ensures.events c.push.ensures.events c.reserve.new.self.room
    c.push.new.self.room c.outstanding.result (c.outstanding.ensures _ _ knows)
    c.in_ok-reserve.ensures.room c.push.ensures.room

pub returns-clause-effect : goal.returns-clause-effect
returns-clause-effect g c =
    let ok = rw (← c.self.view_is) at c.in_ok-may_release.ensures in
    let knows = c.self.invariant.knows in
    subst (λ v. Does (Ok tt) (lose_step (given_of g.T.Task.outcome v) v.journal.events c.args.part) v.journal.events
    c.push.new.self.events)
    c.self.view_is
    (lost-does c.self.inside.state c.self.inside.journal.events
    (g.L.Link.is_told c.self.inside.client.link)
    (g.T.Task.outcome c.self.inside.task.now) (kept_for (g.L.Link.store c.self.inside.client.link))
    c.self.inside.journal.room c.self.invariant c.release-epoch.new.self c.reserve.new.self.events
    c.push.new.self.events c.args.part c.release-epoch.result _ ok
    (c.release-epoch.ensures.epoch _ _ knows) (c.release-epoch.ensures.lost _ _ knows)
    c.in_ok-reserve.ensures.events c.push.ensures.events)

pub returns-clause-keeps : goal.returns-clause-keeps
returns-clause-keeps g c =
    let ok = rw (← c.self.view_is) at c.in_ok-may_release.ensures in
    let knows = c.self.invariant.knows in record {
      given = lost-given c.self.inside.state c.self.inside.journal.events
          (g.L.Link.is_told c.self.inside.client.link)
          (g.T.Task.outcome c.self.inside.task.now) (kept_for (g.L.Link.store c.self.inside.client.link))
          c.self.inside.journal.room c.self.invariant c.release-epoch.new.self c.reserve.new.self.events
          c.push.new.self.events c.args.part c.release-epoch.result _ ok
          (c.release-epoch.ensures.epoch _ _ knows) (c.release-epoch.ensures.lost _ _ knows)
          c.in_ok-reserve.ensures.events c.push.ensures.events
          ∙ ap (λ v. given_of g.T.Task.outcome v) c.self.view_is;
      task = ap (λ v. v.task) c.self.view_is;
      link = ap (λ v. v.link) c.self.view_is;
    }
