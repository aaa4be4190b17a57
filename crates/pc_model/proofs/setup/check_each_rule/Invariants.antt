-- None of the items so far has a fault.
use Rattle.std.proofs.Common.{◌≡◌, drop}
use Rattle.pc_model.specs.Numbers.{first_some}
use Rattle.pc_model.specs.Ranges.{rule_fault}
use Rattle.pc_model.proofs.setup.check_each_rule.Given as goal

abbrev pub invariant-loop-rule : goal.invariant-loop-rule
invariant-loop-rule l = first_some rule_fault l.fails ≡ first_some rule_fault (drop l.rule-index l.fails)
