-- An end is lawful where all is done.
use Rattle.std.proofs.Common.{Result, Ok, Err, refl, ap, sym, ◌∙◌}
use Rattle.pc_model.specs.declared.event.Event.TheVariants.{Done}
use Rattle.pc_offset_client.specs.Client.{kept_for}
use Rattle.pc_engine.specs.declared.fault.EngineFault.{EngineFault}
use Rattle.pc_engine.specs.declared.fault.EngineFault.TheVariants.{NoMemory}
use Rattle.pc_engine.proofs.EngineEnding.{ended-keeps}
use Rattle.pc_engine.proofs.EngineStall.{not_done-goes_on}
use Rattle.pc_engine.proofs.engine.Engine.finish.Goals as goal

pub invariant_of-self-2 : goal.invariant_of-self-2
invariant_of-self-2 g c =
    let knows = c.self.invariant.knows in
    ended-keeps c.self.inside.state c.self.inside.journal.events
    (g.L.Link.is_told c.self.inside.client.link) (g.T.Task.outcome c.self.inside.task.now)
    (kept_for (g.L.Link.store c.self.inside.client.link)) c.self.inside.journal.room c.self.invariant
    (rw (← c.self.view_is) at c.in_ok-runs.ensures.runs) Done (λ q. refl) (λ p. refl) refl (c.unfinished.ensures.finished c.in_default.is _ _ knows)
    c.end.new.self c.reserve.new.self.events c.push.new.self.events _
    (rw (← c.self.view_is) at c.in_ok-has_room.ensures) (c.end.ensures.done _ _ knows)
    c.in_ok-reserve.ensures.events c.push.ensures.events c.reserve.new.self.room
    c.push.new.self.room c.outstanding.result (c.outstanding.ensures _ _ knows)
    c.in_ok-reserve.ensures.room c.push.ensures.room

pub returns-in-Some-clause-goes_on : goal.returns-in-Some-clause-goes_on
returns-in-Some-clause-goes_on g c = λ p o fault. rw (← c.self.view_is)
    (not_done-goes_on _ _ c.self.invariant.knows.legal c.in-Some.reason p o
    (sym c.in-Some.is ∙ c.unfinished.ensures.reason _ _ c.self.invariant.knows)
    (sym c.from.ensures ∙ ap fault_of fault))
  where
    fault_of : Result (Unit {0}) EngineFault → EngineFault
    fault_of (Err fault) = fault
    fault_of (Ok done) = NoMemory
