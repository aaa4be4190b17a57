-- The lines so far are on their way.
use Rattle.std.proofs.Common.{◌≡◌, ◌++◌, List, ℕ, Option, take}
use Rattle.std.specs.List.{flat_map}
use Rattle.pc_print.specs.Line.{line_of}
use Rattle.parcon.specs.Written.{IsOnItsWay}
use Rattle.parcon.proofs.output.put_events.Given as goal

abbrev pub invariant-loop-event : goal.invariant-loop-event
invariant-loop-event g l = record {
  way : (before : Option (List ℕ)) (text : List ℕ)
      → IsOnItsWay before (g.O.Sink.written l.fn.out) l.fn.buffer.items text
      → IsOnItsWay before (g.O.Sink.written l.out) l.buffer.items
      (text ++ flat_map line_of (take l.event-index l.events));
  count : g.O.Sink.faults l.out ≡ g.O.Sink.faults l.fn.out;
}
