-- What the play left is told.
use Rattle.std.proofs.Common.{Ok, [], List, ap, sym, subst}
use Rattle.pc_model.specs.Outcomes.{outcome_of}
use Rattle.pc_script.specs.declared.play.PlayLine.{PlayLine}
use Rattle.pc_offset_client.specs.Client.{kept_for}
use Rattle.pc_engine.specs.Engine.{given_by}
use Rattle.pc_play.specs.Play.{IsPlayed, moment}
use Rattle.pc_play.specs.Kept.{IsKept}
use Rattle.parcon.proofs.PromiseLemmas.{ends-played, plays-kept}
use Rattle.parcon.proofs.play_setup.play_setup.Goals as goal

pub returns : goal.returns
returns g c =
    let given = given_by c.args.setup.now c.args.logs.now [] (g.L.Link.is_told c.args.link)
    outcome_of (kept_for (g.L.Link.store c.args.link)) in
    plays-kept given (Ok c.args.script.now)
    (record {
      is_told = g.L.Link.is_told c.args.link;
      store = g.L.Link.store c.args.link;
      link_faults = g.L.Link.faults c.args.link;
      written = g.O.Sink.written c.args.out.now;
      write_faults = g.O.Sink.faults c.args.out.now;
    })
    (record {
      is_told = g.L.Link.is_told c.tell.result.link;
      store = g.L.Link.store c.tell.result.link;
      link_faults = g.L.Link.faults c.tell.result.link;
      written = g.O.Sink.written c.tell.new.out;
      write_faults = g.O.Sink.faults c.tell.new.out;
    })
    c.tell.result.status c.tell.result.journal.events c.play-played.result.journal.events
    (subst (λ l. IsKept given (g.L.Link.store c.args.link) (g.L.Link.store l)
    c.play-played.result.journal.events) (sym c.tell.ensures.link) c.play-played.ensures.kept)
    c.tell.ensures.journal
    (ends-played given
    (record {
      is_told = g.L.Link.is_told c.args.link;
      store = g.L.Link.store c.args.link;
      link_faults = g.L.Link.faults c.args.link;
      written = g.O.Sink.written c.args.out.now;
      write_faults = g.O.Sink.faults c.args.out.now;
    })
    (record {
      is_told = g.L.Link.is_told c.tell.result.link;
      store = g.L.Link.store c.tell.result.link;
      link_faults = g.L.Link.faults c.tell.result.link;
      written = g.O.Sink.written c.tell.new.out;
      write_faults = g.O.Sink.faults c.tell.new.out;
    })
    (λ remarks. remarks.items) c.args.script.now c.play-played.result.remarks c.tell.result.status
    c.tell.result.journal.events c.play-played.result.journal.events
    (moment (g.L.Link.store c.play-played.result.link) (g.L.Link.faults c.play-played.result.link))
    (subst (λ (lines : List PlayLine). IsPlayed (λ remarks. remarks.items)
    (g.L.Link.is_told c.args.link) given lines
    (moment (g.L.Link.store c.args.link) (g.L.Link.faults c.args.link))
    (moment (g.L.Link.store c.play-played.result.link) (g.L.Link.faults c.play-played.result.link))
    c.play-played.result.journal.events c.play-played.result.remarks) c.as_slice.ensures.lines
    c.play-played.ensures.played)
    c.tell.ensures.journal
    (ap (λ l. moment (g.L.Link.store l) (g.L.Link.faults l)) c.tell.ensures.link)
    c.tell.ensures.written)
