-- The plan is carried out, or there is none.
use Rattle.std.proofs.Common.{Ok, ap, map}
use Rattle.pc_play.specs.Play.{moment}
use Rattle.pc_inputs.specs.Reading.{run_texts_of, text_of}
use Rattle.pc_inputs.specs.Plan.{logs_of, planned_run, run_behind}
use Rattle.pc_inputs.proofs.ReadingLemmas.{was-read}
use Rattle.parcon.proofs.RunLemmas.{run-along, run-logged, run-none, run-status-of}
use Rattle.parcon.proofs.run.run_texts.Goals as goal

pub run_plan-requires-clause-logged : goal.run_plan-requires-clause-logged
run_plan-requires-clause-logged g c κs within =
    run-logged (map text_of c.args.texts.now.texts.logs.items) c.in-Ok.plan.logs c.in-Ok.ensures.logs

pub returns-in-Ok : goal.returns-in-Ok
returns-in-Ok g c =
    run-along c.in-Ok.plan.logs (logs_of (map text_of c.args.texts.now.texts.logs.items))
    (Ok (planned_run c.in-Ok.plan)) (run_behind (run_texts_of c.args.texts.now))
    (record {
      is_told = g.L.Link.is_told c.args.link;
      store = g.L.Link.store c.args.link;
      link_faults = g.L.Link.faults c.args.link;
      written = g.O.Sink.written c.args.out.now;
      write_faults = g.O.Sink.faults c.args.out.now;
    })
    (record {
      is_told = g.L.Link.is_told c.run_plan.result.link;
      store = g.L.Link.store c.run_plan.result.link;
      link_faults = g.L.Link.faults c.run_plan.result.link;
      written = g.O.Sink.written c.run_plan.new.out;
      write_faults = g.O.Sink.faults c.run_plan.new.out;
    })
    c.run_plan.result.status c.run_plan.result.journal.events c.in-Ok.ensures.logs
    (was-read c.in-Ok.plan c.in-Ok.ensures.plan) c.run_plan.ensures

pub returns-in-Err : goal.returns-in-Err
returns-in-Err g c =
    run-none (logs_of (map text_of c.args.texts.now.texts.logs.items))
    (run_behind (run_texts_of c.args.texts.now))
    (record {
      is_told = g.L.Link.is_told c.args.link;
      store = g.L.Link.store c.args.link;
      link_faults = g.L.Link.faults c.args.link;
      written = g.O.Sink.written c.args.out.now;
      write_faults = g.O.Sink.faults c.args.out.now;
    })
    (record {
      is_told = g.L.Link.is_told c.unplayed.result.link;
      store = g.L.Link.store c.unplayed.result.link;
      link_faults = g.L.Link.faults c.unplayed.result.link;
      written = g.O.Sink.written c.unplayed.new.out;
      write_faults = g.O.Sink.faults c.unplayed.new.out;
    })
    c.in-Err.status c.unplayed.result.status c.unplayed.result.journal.events
    (ap (λ l. moment (g.L.Link.store l) (g.L.Link.faults l)) c.unplayed.ensures.link)
    (run-status-of (run_behind (run_texts_of c.args.texts.now)) c.in-Err.status
    c.in-Err.ensures.plan)
    c.unplayed.ensures.journal c.unplayed.ensures.written c.unplayed.ensures.memory
