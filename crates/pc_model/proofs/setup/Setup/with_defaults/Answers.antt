-- The default values are in their ranges.
use Rattle.std.proofs.Common.{rules}
use Rattle.pc_model.specs.Ranges.{settings_fault}
use Rattle.pc_model.proofs.setup.Setup.with_defaults.Goals as goal

pub invariant_of-result : goal.invariant_of-result
unfolding settings_fault
invariant_of-result c = search rules
