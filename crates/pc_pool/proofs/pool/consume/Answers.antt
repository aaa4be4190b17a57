-- A run without an event is kept, and what is kept at its end is what the report says.
use Rattle.std.proofs.Common.{◌∙◌, [], ap, sym, subst, refl, arith}
use Rattle.std.proofs.lemmas.Option.{get_or_from_slice_get}
use Rattle.pc_model.specs.Given.{Given}
use Rattle.pc_offset_client.specs.Client.{kept_for}
use Rattle.pc_engine.specs.Engine.{given_by}
use Rattle.pc_engine.proofs.EngineLemmas.{start-kept}
use Rattle.pc_state_lock.specs.Heading.{Heading}
use Rattle.pc_pool.specs.Report.{IsReport}
use Rattle.pc_pool.specs.Run.{IsFresh, heading_by}
use Rattle.pc_pool.proofs.ReportLemmas.{counts-begin, heading_at, run-begins, unstarted-reports}
use Rattle.pc_pool.proofs.pool.consume.Goals as goal

pub invariant_of-run : goal.invariant_of-run
invariant_of-run g c = (
  run-begins g.T.Task.outcome g.L.Link.is_told g.L.Link.store g.L.Link.faults c.in-Ok.engine
      c.of-origin.result.value c.args.steps.now c.args.workers
      (given_by c.args.setup.now c.args.logs.now [] (g.L.Link.is_told c.args.link)
      (g.T.Task.outcome c.args.task.now) (kept_for (g.L.Link.store c.args.link)))
      c.in-Ok.ensures.given c.in-Ok.ensures.empty (c.of-origin.ensures ∙ sym c.in-Ok.ensures.link)
      (ap g.L.Link.is_told c.in-Ok.ensures.link) c.requires.allowed c.requires.logged c.requires.few
      c.in-Ok.ensures.legal,
  counts-begin c.in-Ok-new.mail c.in-Ok-new.inbox c.in-Ok.engine.journal.events c.in-Ok.ensures.empty
      (ap (λ inbox. inbox.mailbox) c.in-Ok-new.ensures.inbox),
)

pub run_all-requires-clause-senders : goal.run_all-requires-clause-senders
run_all-requires-clause-senders g c κs within = λ k d below.
    let many = c.in-Ok-new.ensures.senders in let ok = c.in-Ok-new.senders.ok in
    subst (λ s. IsFresh c.in-Ok-new.mail s)
    (sym (get_or_from_slice_get c.in-Ok-new.senders.items k _ d
    (c.in-Ok-new.ensures.sender k (omega (arith, many, ok, below)))))
    (record { own = refl; none = refl })

pub returns : goal.returns
returns g c = record {
  report = subst (λ (run : Heading). IsReport run (g.L.Link.is_told c.report.result.link)
      c.report.result.journal.events c.report.result.inbox c.report.result.returned
      (g.L.Link.store c.report.result.link) (g.L.Link.faults c.report.result.link)
      c.report.result.ended c.report.result.jobs.items)
      (c.run_all.ensures.heading
      ∙ ap (λ entry. heading_by g.T.Task.outcome g.L.Link.store g.L.Link.faults c.in-Ok.engine entry
      c.args.steps.now c.args.workers) c.of-origin.ensures
      ∙ ap (λ (given : Given). heading_at g.L.Link.store g.L.Link.faults c.args.link c.args.steps.now
      c.args.workers given) c.in-Ok.ensures.given)
      c.report.ensures.report;
}

pub returns-in-Err : goal.returns-in-Err
returns-in-Err g c = record {
  report = rw (
    c.unstarted.ensures.empty,
    c.unstarted.ensures.inbox.0,
    c.unstarted.ensures.inbox.1,
    c.unstarted.ensures.ended,
    c.unstarted.ensures.jobs,
    c.unstarted.ensures.link,
    c.in-Err.ensures.back,
  )
      (unstarted-reports (heading_at g.L.Link.store g.L.Link.faults c.args.link c.args.steps.now c.args.workers
      (given_by c.args.setup.now c.args.logs.now [] (g.L.Link.is_told c.args.link)
      (g.T.Task.outcome c.args.task.now) (kept_for (g.L.Link.store c.args.link))))
      (g.L.Link.is_told c.args.link) refl c.with_task.ensures.legal
      (λ tells p below. start-kept c.args.setup.now c.args.logs.now p (g.L.Link.is_told c.args.link)
      (g.T.Task.outcome c.args.task.now) (kept_for (g.L.Link.store c.args.link)) tells below));
}

pub returns-in_default : goal.returns-in_default
returns-in_default g c = record {
  report = rw (
    c.unstarted-in_default.ensures.empty,
    c.unstarted-in_default.ensures.inbox.0,
    c.unstarted-in_default.ensures.inbox.1,
    c.unstarted-in_default.ensures.ended,
    c.unstarted-in_default.ensures.jobs,
    c.unstarted-in_default.ensures.link,
    c.into_parts.ensures.link,
    c.in-Ok.ensures.link,
  )
      (unstarted-reports (heading_at g.L.Link.store g.L.Link.faults c.args.link c.args.steps.now c.args.workers
      (given_by c.args.setup.now c.args.logs.now [] (g.L.Link.is_told c.args.link)
      (g.T.Task.outcome c.args.task.now) (kept_for (g.L.Link.store c.args.link))))
      (g.L.Link.is_told c.args.link) refl c.with_task.ensures.legal
      (λ tells p below. start-kept c.args.setup.now c.args.logs.now p (g.L.Link.is_told c.args.link)
      (g.T.Task.outcome c.args.task.now) (kept_for (g.L.Link.store c.args.link)) tells below));
}

pub returns-in_default-new : goal.returns-in_default-new
returns-in_default-new g c = record {
  report = rw (
    c.unstarted-in_default-new.ensures.empty,
    c.unstarted-in_default-new.ensures.inbox.0,
    c.unstarted-in_default-new.ensures.inbox.1,
    c.unstarted-in_default-new.ensures.ended,
    c.unstarted-in_default-new.ensures.jobs,
    c.unstarted-in_default-new.ensures.link,
    c.into_parts-in_default-new.ensures.link,
    c.in-Ok.ensures.link,
  )
      (unstarted-reports (heading_at g.L.Link.store g.L.Link.faults c.args.link c.args.steps.now c.args.workers
      (given_by c.args.setup.now c.args.logs.now [] (g.L.Link.is_told c.args.link)
      (g.T.Task.outcome c.args.task.now) (kept_for (g.L.Link.store c.args.link))))
      (g.L.Link.is_told c.args.link) refl c.with_task.ensures.legal
      (λ tells p below. start-kept c.args.setup.now c.args.logs.now p (g.L.Link.is_told c.args.link)
      (g.T.Task.outcome c.args.task.now) (kept_for (g.L.Link.store c.args.link)) tells below));
}
