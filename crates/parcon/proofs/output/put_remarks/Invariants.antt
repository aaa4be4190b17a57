-- The lines so far are on their way.
use Rattle.std.proofs.Common.{◌≡◌, ◌++◌, List, ℕ, Option, take}
use Rattle.std.specs.List.{flat_map}
use Rattle.parcon.specs.Remark.{remark_line}
use Rattle.parcon.specs.Written.{IsOnItsWay}
use Rattle.parcon.proofs.output.put_remarks.Given as goal

abbrev pub invariant-loop-remark : goal.invariant-loop-remark
invariant-loop-remark g l = record {
  way : (before : Option (List ℕ)) (text : List ℕ)
      → IsOnItsWay before (g.O.Sink.written l.fn.out) l.fn.buffer.items text
      → IsOnItsWay before (g.O.Sink.written l.out) l.buffer.items
      (text ++ flat_map remark_line (take l.remark-index l.remarks));
  count : g.O.Sink.faults l.out ≡ g.O.Sink.faults l.fn.out;
}
