use Rattle.pc_state_lock.specs.Passes.{IsAsBefore}
use Rattle.pc_state_lock.proofs.lock.StateLock.wait_for.Given as goal

abbrev pub invariant-loop : goal.invariant-loop
invariant-loop g l = IsAsBefore l.initial.pass l.pass
