-- A tick to a later time is lawful.
use Rattle.pc_offset_client.specs.Client.{kept_for}
use Rattle.pc_engine.proofs.EngineStep.{given_to}
use Rattle.pc_engine.proofs.EngineTick.{may-tick, ticked-keeps}
use Rattle.pc_engine.proofs.EngineTake.{not-full}
use Rattle.pc_engine.proofs.engine.Engine.tick.Goals as goal

pub tick-requires : goal.tick-requires
tick-requires g c = (
  given_to c.self.inside.state c.self.inside.journal.events
      (g.L.Link.is_told c.self.inside.client.link)
      (g.T.Task.outcome c.self.inside.task.now) (kept_for (g.L.Link.store c.self.inside.client.link)),
  c.self.inside.journal.events,
  c.self.invariant.knows,
  may-tick c.self.inside.state c.self.inside.journal.events
      (g.L.Link.is_told c.self.inside.client.link)
      (g.T.Task.outcome c.self.inside.task.now) (kept_for (g.L.Link.store c.self.inside.client.link))
      c.self.inside.journal.room c.self.invariant c.args.now c.if-now-self.false (rw (← c.self.view_is) at c.in_ok-runs.ensures.runs)
      (not-full _ _ (rw (← c.self.view_is) at c.in_ok-has_room.ensures)),
)

pub invariant_of-self-2 : goal.invariant_of-self-2
invariant_of-self-2 g c =
    let ok = rw (← c.self.view_is) at c.in_ok-has_room.ensures in
    let knows = c.self.invariant.knows in
    ticked-keeps c.self.inside.state c.self.inside.journal.events
    (g.L.Link.is_told c.self.inside.client.link)
    (g.T.Task.outcome c.self.inside.task.now) (kept_for (g.L.Link.store c.self.inside.client.link))
    c.self.inside.journal.room c.self.invariant c.args.now c.if-now-self.false (rw (← c.self.view_is) at c.in_ok-runs.ensures.runs)
    c.tick.new.self c.reserve.new.self.events c.push.new.self.events _ ok
    (λ may. c.tick.ensures _ _ knows may)
    c.in_ok-reserve.ensures.events c.push.ensures.events c.reserve.new.self.room
    c.push.new.self.room c.outstanding.result (c.outstanding.ensures _ _ knows)
    c.in_ok-reserve.ensures.room c.push.ensures.room
