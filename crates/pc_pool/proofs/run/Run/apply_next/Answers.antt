-- The step is the next of a run, and due, so that the run goes on after it or ends with a cause.
use Rattle.std.proofs.Common.{◌+◌, ◌≤◌, length, sym, subst, Option, Some, None, arith}
use Rattle.pc_pool.specs.declared.ending.Ending.{Ending}
use Rattle.pc_pool.proofs.BlockLemmas.{block-aside}
use Rattle.pc_pool.proofs.KeepLemmas.{IsKeptBy, counts-same}
use Rattle.pc_pool.proofs.StepLemmas.{run-applied, run-fewer, run-left, run-may-do}
use Rattle.pc_pool.proofs.run.Run.apply_next.Goals as goal

pub applied-requires : goal.applied-requires
applied-requires g c = run-may-do g.T.Task.outcome g.L.Link.is_told g.L.Link.store g.L.Link.faults
    c.self.inside.engine (g.O.Origin.link c.self.inside.origin) c.self.inside.steps.now
    c.self.inside.workers c.self.inside.used c.self.inside.ended c.in-Some.step.now
    c.self.invariant.0 (rw (← c.self.view_is) at c.requires.goes_on)
    (rw (← c.self.view_is) at c.requires.due) c.in-Some.ensures.step

pub overflow_add-self : goal.overflow_add-self
overflow_add-self g c =
    let left : c.self.inside.used + 1 ≤ length c.self.inside.steps.now =
    run-left g.T.Task.outcome g.L.Link.is_told g.L.Link.store g.L.Link.faults
    c.self.inside.engine (g.O.Origin.link c.self.inside.origin) c.self.inside.steps.now
    c.self.inside.workers c.self.inside.used c.self.inside.ended c.in-Some.step.now
    c.self.invariant.0 (rw (← c.self.view_is) at c.requires.goes_on)
    (rw (← c.self.view_is) at c.requires.due) c.in-Some.ensures.step in
    let few = c.are_countable.ensures in
    omega (arith, left, few)

pub invariant_of-self : goal.invariant_of-self
invariant_of-self g c = (
  subst (λ (o : Option Ending). IsKeptBy g.T.Task.outcome g.L.Link.is_told g.L.Link.store
      g.L.Link.faults c.applied.new.engine (g.O.Origin.link c.self.inside.origin)
      c.self.inside.steps.now c.self.inside.workers (c.self.inside.used + 1) o)
      (sym (rw (← c.self.view_is) at c.requires.goes_on))
      (run-applied g.T.Task.outcome g.L.Link.is_told g.L.Link.store g.L.Link.faults
      c.self.inside.engine (g.O.Origin.link c.self.inside.origin) c.self.inside.steps.now
      c.self.inside.workers c.self.inside.used c.self.inside.ended c.in-Some.step.now
      c.self.invariant.0 (rw (← c.self.view_is) at c.requires.goes_on)
      (rw (← c.self.view_is) at c.requires.due) c.in-Some.ensures.step c.applied.new.engine None
      c.applied.ensures.asks c.in-None.ensures.keeps),
  counts-same c.self.inside.mail.now c.self.inside.inbox c.self.inside.returned
      c.self.inside.engine.journal.events c.applied.new.engine.journal.events
      (block-aside c.in-Some.step.now.act c.self.inside.engine.journal.events
      c.applied.new.engine.journal.events c.applied.ensures.adds).settled c.self.invariant.1,
)

pub invariant_of-self-in-Some-applied : goal.invariant_of-self-in-Some-applied
invariant_of-self-in-Some-applied g c = (
  run-applied g.T.Task.outcome g.L.Link.is_told g.L.Link.store g.L.Link.faults
      c.self.inside.engine (g.O.Origin.link c.self.inside.origin) c.self.inside.steps.now
      c.self.inside.workers c.self.inside.used c.self.inside.ended c.in-Some.step.now
      c.self.invariant.0 (rw (← c.self.view_is) at c.requires.goes_on)
      (rw (← c.self.view_is) at c.requires.due) c.in-Some.ensures.step c.applied.new.engine
      (Some c.in-Some-applied.ending) c.applied.ensures.asks c.in-Some-applied.ensures.keeps,
  counts-same c.self.inside.mail.now c.self.inside.inbox c.self.inside.returned
      c.self.inside.engine.journal.events c.applied.new.engine.journal.events
      (block-aside c.in-Some.step.now.act c.self.inside.engine.journal.events
      c.applied.new.engine.journal.events c.applied.ensures.adds).settled c.self.invariant.1,
)

pub returns-in-None-clause-fewer : goal.returns-in-None-clause-fewer
returns-in-None-clause-fewer g c =
    rw (← c.self.view_is) (run-fewer g.T.Task.outcome g.L.Link.is_told g.L.Link.store
    g.L.Link.faults c.self.inside.engine (g.O.Origin.link c.self.inside.origin)
    c.self.inside.steps.now c.self.inside.workers c.self.inside.used c.self.inside.ended
    c.in-Some.step.now c.self.invariant.0 (rw (← c.self.view_is) at c.requires.goes_on)
    (rw (← c.self.view_is) at c.requires.due) c.in-Some.ensures.step)
