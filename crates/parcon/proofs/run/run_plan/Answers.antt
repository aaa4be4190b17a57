-- The starts were stored and the plan run, or not.
use Rattle.std.proofs.Common.{◌≡◌, Bool, List, [], Ok, ap, refl, subst, sym}
use Rattle.std.specs.List.{All}
use Rattle.pc_model.specs.declared.outcome.Start.{Start}
use Rattle.pc_inputs.specs.declared.status.Status.{Status}
use Rattle.pc_inputs.specs.declared.status.Status.TheVariants.{NoMemory}
use Rattle.pc_inputs.specs.Plan.{planned_run}
use Rattle.pc_inputs.specs.Status.{fault_line}
use Rattle.parcon.specs.Written.{IsWritten}
use Rattle.pc_play.specs.Play.{moment}
use Rattle.parcon.specs.Promise.{given_of}
use Rattle.parcon.specs.RunPromise.{Runs}
use Rattle.parcon.specs.Starts.{IsSendable, Sends, Sent}
use Rattle.parcon.proofs.StartLemmas.{starts-sendable}
use Rattle.parcon.proofs.RunLemmas.{run-started, run-unsent}
use Rattle.parcon.proofs.run.run_plan.Goals as goal

pub send_starts-answer-requires : goal.send_starts-answer-requires
send_starts-answer-requires g c = subst (λ (starts : List Start). All IsSendable starts)
    (sym c.as_slice-starts.ensures) (starts-sendable c.args.plan.now.setup)

pub returns-in-Ok : goal.returns-in-Ok
returns-in-Ok g c =
    let told = g.L.Link.is_told c.args.link in
    let first = moment (g.L.Link.store c.args.link) (g.L.Link.faults c.args.link) in
    run-started c.args.plan.now.setup c.args.plan.now.logs (planned_run c.args.plan.now)
    (record {
      is_told = g.L.Link.is_told c.args.link;
      store = g.L.Link.store c.args.link;
      link_faults = g.L.Link.faults c.args.link;
      written = g.O.Sink.written c.args.out.now;
      write_faults = g.O.Sink.faults c.args.out.now;
    })
    (moment (g.L.Link.store c.send_starts-answer.result.link)
    (g.L.Link.faults c.send_starts-answer.result.link))
    (record {
      is_told = g.L.Link.is_told c.run_setup.result.link;
      store = g.L.Link.store c.run_setup.result.link;
      link_faults = g.L.Link.faults c.run_setup.result.link;
      written = g.O.Sink.written c.run_setup.new.out;
      write_faults = g.O.Sink.faults c.run_setup.new.out;
    })
    c.run_setup.result.status c.run_setup.result.journal.events refl
    (subst (λ (a : Sent). Sends told c.args.plan.now.setup.settings.starts first
    (moment (g.L.Link.store c.send_starts-answer.result.link)
    (g.L.Link.faults c.send_starts-answer.result.link)) a) c.in-Ok.is
    (subst (λ (starts : List Start). Sends told starts first
    (moment (g.L.Link.store c.send_starts-answer.result.link)
    (g.L.Link.faults c.send_starts-answer.result.link)) c.send_starts-answer.result.answer)
    c.as_slice-starts.ensures c.send_starts-answer.ensures.sends))
    (subst (λ (b : Bool). Runs c.args.plan.now.setup c.args.plan.now.logs
    (given_of c.args.plan.now.setup c.args.plan.now.logs b
    (g.L.Link.store c.send_starts-answer.result.link)) (planned_run c.args.plan.now)
    (record {
      is_told = b;
      store = g.L.Link.store c.send_starts-answer.result.link;
      link_faults = g.L.Link.faults c.send_starts-answer.result.link;
      written = g.O.Sink.written c.args.out.now;
      write_faults = g.O.Sink.faults c.args.out.now;
    })
    (record {
      is_told = g.L.Link.is_told c.run_setup.result.link;
      store = g.L.Link.store c.run_setup.result.link;
      link_faults = g.L.Link.faults c.run_setup.result.link;
      written = g.O.Sink.written c.run_setup.new.out;
      write_faults = g.O.Sink.faults c.run_setup.new.out;
    })
    c.run_setup.result.status c.run_setup.result.journal.events)
    c.send_starts-answer.ensures.told c.run_setup.ensures)

pub returns-in-Err : goal.returns-in-Err
returns-in-Err g c =
    let told = g.L.Link.is_told c.args.link in
    let first = moment (g.L.Link.store c.args.link) (g.L.Link.faults c.args.link) in
    run-unsent c.args.plan.now.setup c.args.plan.now.logs (planned_run c.args.plan.now)
    (record {
      is_told = g.L.Link.is_told c.args.link;
      store = g.L.Link.store c.args.link;
      link_faults = g.L.Link.faults c.args.link;
      written = g.O.Sink.written c.args.out.now;
      write_faults = g.O.Sink.faults c.args.out.now;
    })
    (moment (g.L.Link.store c.send_starts-answer.result.link)
    (g.L.Link.faults c.send_starts-answer.result.link))
    (record {
      is_told = g.L.Link.is_told c.unplayed.result.link;
      store = g.L.Link.store c.unplayed.result.link;
      link_faults = g.L.Link.faults c.unplayed.result.link;
      written = g.O.Sink.written c.unplayed.new.out;
      write_faults = g.O.Sink.faults c.unplayed.new.out;
    })
    c.unplayed.result.status c.unplayed.result.journal.events c.in-Err.fault refl
    (subst (λ (a : Sent). Sends told c.args.plan.now.setup.settings.starts first
    (moment (g.L.Link.store c.send_starts-answer.result.link)
    (g.L.Link.faults c.send_starts-answer.result.link)) a) c.in-Err.is
    (subst (λ (starts : List Start). Sends told starts first
    (moment (g.L.Link.store c.send_starts-answer.result.link)
    (g.L.Link.faults c.send_starts-answer.result.link)) c.send_starts-answer.result.answer)
    c.as_slice-starts.ensures c.send_starts-answer.ensures.sends)) c.requires.rise
    (ap (λ l. moment (g.L.Link.store l) (g.L.Link.faults l)) c.unplayed.ensures.link)
    c.unplayed.ensures.journal
    (subst (λ (s : Status). IsWritten (g.O.Sink.written c.args.out.now)
    (g.O.Sink.written c.unplayed.new.out) (g.O.Sink.faults c.args.out.now)
    (g.O.Sink.faults c.unplayed.new.out) (fault_line s) s c.unplayed.result.status)
    c.from.ensures c.unplayed.ensures.written)
    (subst (λ (s : Status). s ≡ NoMemory → c.unplayed.result.status ≡ NoMemory) c.from.ensures
    c.unplayed.ensures.memory)
