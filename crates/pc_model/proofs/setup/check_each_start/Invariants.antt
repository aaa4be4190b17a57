-- None of the items so far has a fault.
use Rattle.std.proofs.Common.{◌≡◌, drop}
use Rattle.pc_model.specs.Numbers.{first_some}
use Rattle.pc_model.specs.Ranges.{start_fault}
use Rattle.pc_model.proofs.setup.check_each_start.Given as goal

abbrev pub invariant-loop-start : goal.invariant-loop-start
invariant-loop-start l = first_some start_fault l.starts ≡ first_some start_fault (drop l.start-index l.starts)
