-- The files were read, or not.
use Rattle.std.proofs.Common.{ap, map}
use Rattle.std.specs.Prelude.{string_bytes}
use Rattle.pc_play.specs.Play.{moment}
use Rattle.pc_inputs.specs.Reading.{run_texts_of}
use Rattle.pc_inputs.proofs.ReadingLemmas.{was-read}
use Rattle.parcon.proofs.RunLemmas.{call-run, call-unrun}
use Rattle.parcon.proofs.run.run.Goals as goal

pub returns-in-Ok : goal.returns-in-Ok
returns-in-Ok g c =
    call-run (map string_bytes c.args.words.now)
    (record {
      contents = g.F.Files.told c.args.files.now;
      faults = g.F.Files.faults c.args.files.now;
    })
    (record {
      contents = g.F.Files.told c.read_run.new.files;
      faults = g.F.Files.faults c.read_run.new.files;
    })
    (record {
      is_told = g.L.Link.is_told c.args.link;
      store = g.L.Link.store c.args.link;
      link_faults = g.L.Link.faults c.args.link;
      written = g.O.Sink.written c.args.out.now;
      write_faults = g.O.Sink.faults c.args.out.now;
    })
    (record {
      is_told = g.L.Link.is_told c.run_texts.result.link;
      store = g.L.Link.store c.run_texts.result.link;
      link_faults = g.L.Link.faults c.run_texts.result.link;
      written = g.O.Sink.written c.run_texts.new.out;
      write_faults = g.O.Sink.faults c.run_texts.new.out;
    })
    (run_texts_of c.in-Ok.texts) c.run_texts.result.status c.run_texts.result.journal.events
    (was-read c.in-Ok.texts c.in-Ok.ensures.texts) c.run_texts.ensures

pub returns-in-Err : goal.returns-in-Err
returns-in-Err g c =
    call-unrun (map string_bytes c.args.words.now)
    (record {
      contents = g.F.Files.told c.args.files.now;
      faults = g.F.Files.faults c.args.files.now;
    })
    (record {
      contents = g.F.Files.told c.read_run.new.files;
      faults = g.F.Files.faults c.read_run.new.files;
    })
    (record {
      is_told = g.L.Link.is_told c.args.link;
      store = g.L.Link.store c.args.link;
      link_faults = g.L.Link.faults c.args.link;
      written = g.O.Sink.written c.args.out.now;
      write_faults = g.O.Sink.faults c.args.out.now;
    })
    (record {
      is_told = g.L.Link.is_told c.unplayed.result.link;
      store = g.L.Link.store c.unplayed.result.link;
      link_faults = g.L.Link.faults c.unplayed.result.link;
      written = g.O.Sink.written c.unplayed.new.out;
      write_faults = g.O.Sink.faults c.unplayed.new.out;
    })
    c.in-Err.status c.unplayed.result.status c.unplayed.result.journal.events
    c.in-Err.ensures.texts
    (ap (λ l. moment (g.L.Link.store l) (g.L.Link.faults l)) c.unplayed.ensures.link)
    c.unplayed.ensures.journal c.unplayed.ensures.written c.unplayed.ensures.memory
