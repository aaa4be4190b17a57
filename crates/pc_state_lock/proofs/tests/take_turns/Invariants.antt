use Rattle.pc_state_lock.specs.Passes.{IsPassOf, IsAtRest}
use Rattle.pc_state_lock.proofs.tests.take_turns.Given as goal

abbrev pub invariant-loop : goal.invariant-loop
invariant-loop g l = IsPassOf l.lock l.pass × IsAtRest l.pass
