-- The dispatch of a job is paced, since nothing else is to be done.
use Rattle.std.proofs.Common.{sym, subst, Some, Err}
use Rattle.pc_engine.specs.Engine.{given_of}
use Rattle.pc_pool.specs.declared.ending.Ending.{Ending}
use Rattle.pc_pool.proofs.KeepLemmas.{IsKeptBy, counts-same}
use Rattle.pc_pool.proofs.TakeLemmas.{refusal, run-refuses, run-takes, taken-counted}
use Rattle.pc_pool.proofs.run.Run.take.Goals as goal

pub invariant_of-self : goal.invariant_of-self
invariant_of-self g c =
    let does = rw c.in-Ok-Some.is at c.take-taken.ensures.effect in (
      run-takes g.T.Task.outcome g.L.Link.is_told g.L.Link.store g.L.Link.faults c.self.inside.engine
          c.take-taken.new.self (g.O.Origin.link c.self.inside.origin) c.self.inside.steps.now
          c.self.inside.workers c.self.inside.used c.args.worker c.self.inside.ended
          c.self.invariant.0 (rw (← c.self.view_is) at c.requires.idle)
          (rw (← c.self.view_is) at c.requires.worker) c.take-taken.ensures.keeps
          c.legal.ensures.legal _ does,
      counts-same c.self.inside.mail.now c.self.inside.inbox c.self.inside.returned
          c.self.inside.engine.journal.events c.take-taken.new.self.journal.events
          (taken-counted (given_of g.T.Task.outcome c.self.inside.engine)
          c.self.inside.engine.journal.events c.take-taken.new.self.journal.events c.args.worker _
          c.take-taken.ensures.effect) c.self.invariant.1,
    )

pub refused-requires : goal.refused-requires
refused-requires g c = refusal g.T.Task.outcome g.L.Link.is_told g.L.Link.store g.L.Link.faults c.self.inside.engine
    c.take-taken.new.self (g.O.Origin.link c.self.inside.origin) c.self.inside.steps.now
    c.self.inside.workers c.self.inside.used c.args.worker c.self.inside.ended
    c.self.invariant.0 (rw (← c.self.view_is) at c.requires.idle)
    (rw (← c.self.view_is) at c.requires.worker) c.take-taken.ensures.keeps
    c.legal.ensures.legal (Err c.in-Err.fault) (rw c.in-Err.is at c.take-taken.ensures.effect)

pub invariant_of-self-in-Err : goal.invariant_of-self-in-Err
invariant_of-self-in-Err g c =
    let does = rw c.in-Err.is at c.take-taken.ensures.effect in (
      subst (λ (e : Ending). IsKeptBy g.T.Task.outcome g.L.Link.is_told g.L.Link.store g.L.Link.faults
          c.take-taken.new.self (g.O.Origin.link c.self.inside.origin) c.self.inside.steps.now
          c.self.inside.workers c.self.inside.used (Some e)) (sym c.refused.ensures)
          (run-refuses g.T.Task.outcome g.L.Link.is_told g.L.Link.store g.L.Link.faults
          c.self.inside.engine
          c.take-taken.new.self (g.O.Origin.link c.self.inside.origin) c.self.inside.steps.now
          c.self.inside.workers c.self.inside.used c.args.worker c.self.inside.ended
          c.self.invariant.0 (rw (← c.self.view_is) at c.requires.idle)
          (rw (← c.self.view_is) at c.requires.worker) c.take-taken.ensures.keeps
          c.legal.ensures.legal c.events_are_bounded.ensures c.in-Err.fault does),
      counts-same c.self.inside.mail.now c.self.inside.inbox c.self.inside.returned
          c.self.inside.engine.journal.events c.take-taken.new.self.journal.events
          (taken-counted (given_of g.T.Task.outcome c.self.inside.engine)
          c.self.inside.engine.journal.events c.take-taken.new.self.journal.events c.args.worker _
          c.take-taken.ensures.effect) c.self.invariant.1,
    )
