-- The next record's dispatch is lawful, and leaves a place for its result.
use Rattle.std.proofs.Common.{sym}
use Rattle.pc_offset_client.specs.Client.{kept_for}
use Rattle.pc_engine.proofs.EngineStep.{given_to}
use Rattle.pc_engine.proofs.EngineStall.{none-stalls}
use Rattle.pc_engine.proofs.EngineTake.{taken-keeps}
use Rattle.pc_engine.proofs.engine.Engine.take.Goals as goal

pub dispatch-requires : goal.dispatch-requires
dispatch-requires g c = (
  given_to c.self.inside.state c.self.inside.journal.events
      (g.L.Link.is_told c.self.inside.client.link)
      (g.T.Task.outcome c.self.inside.task.now) (kept_for (g.L.Link.store c.self.inside.client.link)),
  c.self.inside.journal.events,
  c.self.invariant.knows,
  sym (c.in-Some.ensures _ _ c.self.invariant.knows),
)

pub invariant_of-self-2 : goal.invariant_of-self-2
invariant_of-self-2 g c = let room_left = rw (← c.self.view_is) at c.in_ok-has_room.ensures in
    let knows = c.self.invariant.knows in
    let next = c.in-Some.ensures _ _ knows in
    taken-keeps c.self.inside.state c.self.inside.journal.events
    (g.L.Link.is_told c.self.inside.client.link)
    (g.T.Task.outcome c.self.inside.task.now) (kept_for (g.L.Link.store c.self.inside.client.link))
    c.self.inside.journal.room c.self.invariant (rw (← c.self.view_is) at c.in_ok-runs.ensures.runs) c.dispatch.new.self c.reserve.new.self.events
    c.push.new.self.events c.reserve.new.self.room c.push.new.self.room c.args.worker
    c.in-Some.part c.in-Some.offset c.outstanding.result _ _ c.requires next room_left
    (c.in_ok-job.ensures.job _ _ knows (sym next))
    (c.in_ok-job.ensures.dispatched _ _ knows (sym next))
    c.in_ok-reserve.ensures.events c.push.ensures.events (c.outstanding.ensures _ _ knows)
    c.in_ok-reserve.ensures.room c.push.ensures.room

pub returns-in_default-clause-goes_on : goal.returns-in_default-clause-goes_on
returns-in_default-clause-goes_on g c = λ none. rw (← c.self.view_is)
    (none-stalls _ _ c.self.invariant.knows.legal)
