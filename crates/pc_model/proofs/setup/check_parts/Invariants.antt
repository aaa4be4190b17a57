-- None of the starts so far has the part of an earlier one.
use Rattle.std.proofs.Common.{◌≡◌, [], take, drop}
use Rattle.pc_model.specs.Ranges.{twice_fault}
use Rattle.pc_model.proofs.setup.check_parts.Given as goal

abbrev pub invariant-loop-i : goal.invariant-loop-i
invariant-loop-i l = twice_fault [] l.starts ≡ twice_fault (take l.i l.starts) (drop l.i l.starts)
