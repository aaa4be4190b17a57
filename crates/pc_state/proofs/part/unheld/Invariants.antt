use Rattle.std.proofs.Common.{◌≡◌, replicate, None}
use Rattle.pc_state.specs.declared.part.PartState.{PartState}
use Rattle.pc_state.proofs.part.unheld.Given as goal

abbrev pub invariant-loop : goal.invariant-loop
invariant-loop l = l.parts.items ≡ replicate {A = PartState} l.counter (record { epoch = 0; held = None })
