use Rattle.std.proofs.Common.{◌≡◌, vec_len, vec_capacity}
use Rattle.pc_state_lock.proofs.bells.Bells.silent.Given as goal

abbrev pub invariant-loop : goal.invariant-loop
invariant-loop l = (vec_len l.bells ≡ l.counter) × (vec_capacity l.bells ≡ 256)
