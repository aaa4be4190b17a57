-- Each turn adds one more part.
use Rattle.std.proofs.Common.{◌≡◌, length}
use Rattle.pc_state.proofs.ledger.unheld.Given as goal

abbrev pub invariant-loop : goal.invariant-loop
invariant-loop l = length l.parts.items ≡ l.counter
