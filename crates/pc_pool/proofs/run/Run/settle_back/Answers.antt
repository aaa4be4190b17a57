-- A result that is expected adds its event, and is counted.
use Rattle.std.proofs.Common.{[], ◌∷◌, sym, ◌∙◌, arith}
use Rattle.pc_task.specs.Results.{finished_job}
use Rattle.pc_engine.specs.Engine.{given_of}
use Rattle.pc_pool.proofs.BackLemmas.{is-result, one-more, result-counted, run-settles}
use Rattle.pc_pool.proofs.KeepLemmas.{counts-more, from-call, none-of}
use Rattle.pc_pool.proofs.run.Run.settle_back.Goals as goal

pub invariant_of-self : goal.invariant_of-self
invariant_of-self g c = (
  run-settles g.T.Task.outcome g.L.Link.is_told g.L.Link.store g.L.Link.faults c.self.inside.engine
      c.settle_expected.new.engine (g.O.Origin.link c.self.inside.origin) c.self.inside.steps.now
      c.self.inside.workers c.self.inside.used c.self.inside.ended c.self.invariant.0
      (none-of c.self.inside.ended (sym c.is_some.ensures ∙ c.if-is_some.false)) c.settle_expected.ensures.keeps
      c.settle_expected.ensures.legal (finished_job c.args.done) c.args.done.outcome
      c.settle_expected.ensures.event,
  counts-more c.self.inside.mail.now c.self.inside.inbox c.self.inside.returned
      c.self.inside.engine.journal.events c.settle_expected.new.engine.journal.events
      (result-counted c.self.inside.engine.journal.events
      c.settle_expected.new.engine.journal.events _
      (is-result (given_of g.T.Task.outcome c.self.inside.engine) c.self.inside.engine.journal.events
      (finished_job c.args.done) c.args.done.outcome) c.settle_expected.ensures.event)
      c.self.invariant.1,
)

pub overflow_add-self : goal.overflow_add-self
overflow_add-self g c =
    let most = one-more c.self.inside.returned c.self.inside.engine.journal.events
    c.settle_expected.new.engine.journal.events _ _ c.self.invariant.1.few
    c.settle_expected.ensures.event c.settle_expected.ensures.limit in
    omega (arith, most)

pub returns : goal.returns
returns g c = rw (← c.self.view_is) (from-call g.T.Task.outcome g.L.Link.store g.L.Link.faults _
    c.settle_expected.new.engine c.self.inside.used c.self.inside.ended
    c.settle_expected.ensures.keeps.given
    (record { added = _ ∷ []; is = c.settle_expected.ensures.event }))
