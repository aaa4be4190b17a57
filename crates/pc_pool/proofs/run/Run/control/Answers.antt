-- A control turn keeps the run, or ends it.
use Rattle.std.proofs.Common.{◌∙◌, ap, sym, subst, Option, Some}
use Rattle.pc_drain.specs.declared.turn.Turn.{Turn}
use Rattle.pc_pool.specs.declared.ending.Ending.{Ending}
use Rattle.pc_pool.specs.Run.{ended_by}
use Rattle.pc_pool.proofs.ControlLemmas.{ended-other, run-turned}
use Rattle.pc_pool.proofs.KeepLemmas.{IsKeptBy, counts-turned}
use Rattle.pc_pool.proofs.run.Run.control.Goals as goal

pub invariant_of-self : goal.invariant_of-self
invariant_of-self g c = (
  subst (λ (o : Option Ending). IsKeptBy g.T.Task.outcome g.L.Link.is_told g.L.Link.store
      g.L.Link.faults c.turned-turn.new.engine (g.O.Origin.link c.self.inside.origin)
      c.self.inside.steps.now c.self.inside.workers c.self.inside.used o)
      (ap (λ (t : Turn). ended_by t) c.in-Went.is ∙ sym (rw (← c.self.view_is) at c.requires.goes_on))
      (run-turned g.T.Task.outcome g.L.Link.is_told g.L.Link.store g.L.Link.faults c.self.inside.engine
      c.turned-turn.new.engine (g.O.Origin.link c.self.inside.origin) c.self.inside.steps.now
      c.self.inside.workers c.self.inside.used c.len.result c.self.inside.ended
      (ended_by c.turned-turn.result) c.self.invariant.0 (rw (← c.self.view_is) at c.requires.goes_on)
      c.len.ensures c.turned-turn.ensures.asks c.turned-turn.ensures.keeps),
  counts-turned c.self.inside.mail.now c.self.inside.inbox c.turned-turn.new.inbox
      c.self.inside.returned c.self.inside.engine.journal.events
      c.turned-turn.new.engine.journal.events c.turned-turn.ensures.inbox c.turned-turn.ensures.settled
      c.turned-turn.ensures.later c.self.invariant.1,
)

pub invariant_of-self-in-Idle : goal.invariant_of-self-in-Idle
invariant_of-self-in-Idle g c = (
  subst (λ (o : Option Ending). IsKeptBy g.T.Task.outcome g.L.Link.is_told g.L.Link.store
      g.L.Link.faults c.turned-turn.new.engine (g.O.Origin.link c.self.inside.origin)
      c.self.inside.steps.now c.self.inside.workers c.self.inside.used o)
      (ap (λ (t : Turn). ended_by t) c.in-Idle.is ∙ sym (rw (← c.self.view_is) at c.requires.goes_on))
      (run-turned g.T.Task.outcome g.L.Link.is_told g.L.Link.store g.L.Link.faults c.self.inside.engine
      c.turned-turn.new.engine (g.O.Origin.link c.self.inside.origin) c.self.inside.steps.now
      c.self.inside.workers c.self.inside.used c.len.result c.self.inside.ended
      (ended_by c.turned-turn.result) c.self.invariant.0 (rw (← c.self.view_is) at c.requires.goes_on)
      c.len.ensures c.turned-turn.ensures.asks c.turned-turn.ensures.keeps),
  counts-turned c.self.inside.mail.now c.self.inside.inbox c.turned-turn.new.inbox
      c.self.inside.returned c.self.inside.engine.journal.events
      c.turned-turn.new.engine.journal.events c.turned-turn.ensures.inbox c.turned-turn.ensures.settled
      c.turned-turn.ensures.later c.self.invariant.1,
)

pub invariant_of-self-in_default : goal.invariant_of-self-in_default
invariant_of-self-in_default g c = (
  subst (λ (o : Option Ending). IsKeptBy g.T.Task.outcome g.L.Link.is_told g.L.Link.store
      g.L.Link.faults c.turned-turn.new.engine (g.O.Origin.link c.self.inside.origin)
      c.self.inside.steps.now c.self.inside.workers c.self.inside.used o)
      (ended-other c.turned-turn.result c.in_default.not-Went c.in_default.not-Idle
      ∙ ap (λ (e : Ending). Some e) (sym c.ending_of.ensures))
      (run-turned g.T.Task.outcome g.L.Link.is_told g.L.Link.store g.L.Link.faults c.self.inside.engine
      c.turned-turn.new.engine (g.O.Origin.link c.self.inside.origin) c.self.inside.steps.now
      c.self.inside.workers c.self.inside.used c.len.result c.self.inside.ended
      (ended_by c.turned-turn.result) c.self.invariant.0 (rw (← c.self.view_is) at c.requires.goes_on)
      c.len.ensures c.turned-turn.ensures.asks c.turned-turn.ensures.keeps),
  counts-turned c.self.inside.mail.now c.self.inside.inbox c.turned-turn.new.inbox
      c.self.inside.returned c.self.inside.engine.journal.events
      c.turned-turn.new.engine.journal.events c.turned-turn.ensures.inbox c.turned-turn.ensures.settled
      c.turned-turn.ensures.later c.self.invariant.1,
)
