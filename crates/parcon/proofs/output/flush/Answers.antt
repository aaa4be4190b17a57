-- The front of the buffer is the front of the text.
use Rattle.std.proofs.Common.{List, ℕ, sym, subst}
use Rattle.parcon.specs.Written.{IsOnItsWay}
use Rattle.parcon.proofs.WrittenLemmas.{front-of-buffer}
use Rattle.parcon.proofs.output.flush.Goals as goal

pub returns-clause-front : goal.returns-clause-front
returns-clause-front g c before text way =
    front-of-buffer before (g.O.Sink.written c.args.out.now) (g.O.Sink.written c.write_all.new.out)
    c.as_slice.result.now text
    (subst (λ (b : List ℕ). IsOnItsWay before (g.O.Sink.written c.args.out.now) b text)
    (sym c.as_slice.ensures.value) way) c.write_all.ensures.front
