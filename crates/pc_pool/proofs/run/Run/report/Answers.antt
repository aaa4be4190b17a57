-- What is kept of a run is what its report says.
use Rattle.std.proofs.Common.{◌∙◌, List, ap, subst}
use Rattle.pc_model.specs.declared.event.Event.{Event}
use Rattle.pc_model.specs.History.{History}
use Rattle.pc_pool.specs.Jobs.{AreJobs}
use Rattle.pc_pool.specs.Run.{heading_by}
use Rattle.pc_pool.proofs.ReportLemmas.{reports}
use Rattle.pc_pool.proofs.run.Run.report.Goals as goal

pub returns-clause-report : goal.returns-clause-report
returns-clause-report g c =
    rw (← c.self.view_is, c.into_parts-journal.ensures.journal, c.into_parts-journal.ensures.link)
    (reports (heading_by g.T.Task.outcome g.L.Link.store g.L.Link.faults c.self.inside.engine
    (g.O.Origin.link c.self.inside.origin) c.self.inside.steps.now c.self.inside.workers)
    (g.L.Link.is_told c.self.inside.engine.link) c.self.inside.engine.journal.events
    (g.L.Link.store c.self.inside.engine.link) (g.L.Link.faults c.self.inside.engine.link)
    c.self.inside.used c.self.inside.ended c.unwrap.result c.self.inside.mail.now c.self.inside.inbox
    c.self.inside.returned c.counted-jobs.result.items c.self.invariant.0 c.unwrap.ensures c.self.invariant.1
    (λ tells. c.into_parts-journal.ensures.stored (c.into_parts-journal.ensures.told ∙ tells))
    (subst (λ (h : List Event). AreJobs c.self.inside.workers h c.counted-jobs.result.items)
    (ap (λ (j : History). j.events) c.into_parts-journal.ensures.journal) c.counted-jobs.ensures))
