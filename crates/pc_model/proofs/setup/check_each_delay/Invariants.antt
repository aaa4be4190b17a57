-- None of the items so far has a fault.
use Rattle.std.proofs.Common.{◌≡◌, drop}
use Rattle.pc_model.specs.Numbers.{first_some}
use Rattle.pc_model.specs.Ranges.{delay_fault}
use Rattle.pc_model.proofs.setup.check_each_delay.Given as goal

abbrev pub invariant-loop-delay : goal.invariant-loop-delay
invariant-loop-delay l = first_some delay_fault l.delays ≡ first_some delay_fault (drop l.delay-index l.delays)
