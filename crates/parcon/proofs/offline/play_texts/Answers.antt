-- The plan is carried out, or there is none.
use Rattle.std.proofs.Common.{◌≡◌, true, Ok, ap, map, subst, sym}
use Rattle.pc_play.specs.Play.{moment}
use Rattle.pc_inputs.specs.Reading.{text_of, texts_of}
use Rattle.pc_inputs.specs.Plan.{all_rise, logs_of, plan_behind, planned}
use Rattle.pc_inputs.proofs.ReadingLemmas.{was-read}
use Rattle.pc_inputs.proofs.PlanLemmas.{texts-rise}
use Rattle.parcon.proofs.PromiseLemmas.{carried-along, carried-none, status-of}
use Rattle.parcon.proofs.offline.play_texts.Goals as goal

pub carry_out-requires : goal.carry_out-requires
carry_out-requires g c = subst (λ logs. all_rise logs ≡ true)
    (sym c.in-Ok.ensures.logs) (texts-rise (map text_of c.args.texts.now.logs.items))

pub returns-in-Ok : goal.returns-in-Ok
returns-in-Ok g c =
    carried-along c.in-Ok.plan.logs (logs_of (map text_of c.args.texts.now.logs.items))
    (Ok (planned c.in-Ok.plan)) (plan_behind (texts_of c.args.texts.now))
    (record {
      is_told = g.L.Link.is_told c.args.link;
      store = g.L.Link.store c.args.link;
      link_faults = g.L.Link.faults c.args.link;
      written = g.O.Sink.written c.args.out.now;
      write_faults = g.O.Sink.faults c.args.out.now;
    })
    (record {
      is_told = g.L.Link.is_told c.carry_out.result.link;
      store = g.L.Link.store c.carry_out.result.link;
      link_faults = g.L.Link.faults c.carry_out.result.link;
      written = g.O.Sink.written c.carry_out.new.out;
      write_faults = g.O.Sink.faults c.carry_out.new.out;
    })
    c.carry_out.result.status c.carry_out.result.journal.events c.in-Ok.ensures.logs
    (was-read c.in-Ok.plan c.in-Ok.ensures.plan) c.carry_out.ensures

pub returns-in-Err : goal.returns-in-Err
returns-in-Err g c =
    carried-none (logs_of (map text_of c.args.texts.now.logs.items))
    (plan_behind (texts_of c.args.texts.now))
    (record {
      is_told = g.L.Link.is_told c.args.link;
      store = g.L.Link.store c.args.link;
      link_faults = g.L.Link.faults c.args.link;
      written = g.O.Sink.written c.args.out.now;
      write_faults = g.O.Sink.faults c.args.out.now;
    })
    (record {
      is_told = g.L.Link.is_told c.unplayed.result.link;
      store = g.L.Link.store c.unplayed.result.link;
      link_faults = g.L.Link.faults c.unplayed.result.link;
      written = g.O.Sink.written c.unplayed.new.out;
      write_faults = g.O.Sink.faults c.unplayed.new.out;
    })
    c.in-Err.status c.unplayed.result.status c.unplayed.result.journal.events
    (texts-rise (map text_of c.args.texts.now.logs.items))
    (ap (λ l. moment (g.L.Link.store l) (g.L.Link.faults l)) c.unplayed.ensures.link)
    (status-of (plan_behind (texts_of c.args.texts.now)) c.in-Err.status c.in-Err.ensures.plan)
    c.unplayed.ensures.journal c.unplayed.ensures.written c.unplayed.ensures.memory
