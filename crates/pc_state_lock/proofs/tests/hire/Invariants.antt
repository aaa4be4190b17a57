use Rattle.pc_state_lock.specs.Passes.{IsPassOf, IsAtRest}
use Rattle.pc_state_lock.proofs.tests.hire.Given as goal

abbrev pub invariant-loop-number : goal.invariant-loop-number
invariant-loop-number l = IsPassOf l.lock l.pass × IsAtRest l.pass
