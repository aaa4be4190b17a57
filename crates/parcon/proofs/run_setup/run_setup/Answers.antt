-- What the pool reports is told.
use Rattle.std.proofs.Common.{◌≡◌, ap, subst, sym}
use Rattle.pc_pool.specs.Report.{IsReport}
use Rattle.pc_inputs.specs.Plan.{planned_run}
use Rattle.parcon.specs.Promise.{Outside, given_of}
use Rattle.parcon.specs.RunPromise.{heading_of}
use Rattle.parcon.proofs.RunLemmas.{runs-reported}
use Rattle.parcon.proofs.run_setup.run_setup.Goals as goal

pub returns : goal.returns
returns g c =
    let before : Outside = record {
      is_told = g.L.Link.is_told c.args.link;
      store = g.L.Link.store c.args.link;
      link_faults = g.L.Link.faults c.args.link;
      written = g.O.Sink.written c.args.out.now;
      write_faults = g.O.Sink.faults c.args.out.now;
    } in
    runs-reported c.args.plan.now.setup c.args.plan.now.logs (planned_run c.args.plan.now) before
    (record {
      is_told = g.L.Link.is_told c.tell.result.link;
      store = g.L.Link.store c.tell.result.link;
      link_faults = g.L.Link.faults c.tell.result.link;
      written = g.O.Sink.written c.tell.new.out;
      write_faults = g.O.Sink.faults c.tell.new.out;
    })
    c.tell.result.status c.tell.result.journal.events c.consume-report.result.journal.events
    c.consume-report.result.inbox c.consume-report.result.returned c.consume-report.result.ended
    c.consume-report.result.jobs.items
    (subst (λ l. IsReport (heading_of (given_of c.args.plan.now.setup c.args.plan.now.logs
    (g.L.Link.is_told c.args.link) (g.L.Link.store c.args.link)) (planned_run c.args.plan.now) before)
    (g.L.Link.is_told l) c.consume-report.result.journal.events c.consume-report.result.inbox
    c.consume-report.result.returned (g.L.Link.store l) (g.L.Link.faults l)
    c.consume-report.result.ended c.consume-report.result.jobs.items) (sym c.tell.ensures.link) c.consume-report.ensures.report)
    c.tell.ensures.journal c.tell.ensures.written
