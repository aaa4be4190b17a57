-- What was written so far, and what is left.
use Rattle.std.proofs.Common.{◌≡◌, length}
use Rattle.parcon.specs.Written.{IsOnItsWay}
use Rattle.parcon.proofs.output.write_all.Given as goal

-- the bytes that are left stand behind those that were written
abbrev pub invariant-loop-rest : goal.invariant-loop-rest
invariant-loop-rest g l = record {
  way : IsOnItsWay (g.O.Sink.written l.fn.out) (g.O.Sink.written l.out) l.rest l.fn.bytes;
  count : g.O.Sink.faults l.out ≡ g.O.Sink.faults l.fn.out;
}

abbrev pub decreases-loop-rest : goal.decreases-loop-rest
decreases-loop-rest g l = length l.rest
