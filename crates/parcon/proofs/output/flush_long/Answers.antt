-- After a flush nothing is on its way.
use Rattle.parcon.proofs.WrittenLemmas.{way-flushed}
use Rattle.parcon.proofs.output.flush_long.Goals as goal

pub returns-clause-ok : goal.returns-clause-ok
returns-clause-ok g c before text way =
    way-flushed c.flush.result before (g.O.Sink.written c.flush.new.out) c.flush.new.buffer.items
    text c.flush.ensures.empty (c.flush.ensures.whole before text way)
