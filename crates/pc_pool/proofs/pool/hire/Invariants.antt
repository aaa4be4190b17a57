-- The pass rests, the senders that are left have put nothing, and there is a place and a sender for
-- each worker.
use Rattle.std.proofs.Common.{◌≡◌, ◌+◌, ◌≤◌}
use Rattle.std.specs.Prelude.{All, vec_capacity, vec_len}
use Rattle.pc_state_lock.specs.Passes.{IsAtRest, IsPassOf}
use Rattle.pc_pool.specs.Run.{IsFresh}
use Rattle.pc_pool.proofs.pool.hire.Given as goal

abbrev pub invariant-loop-number : goal.invariant-loop-number
invariant-loop-number g l = IsPassOf l.lock l.pass × IsAtRest l.pass
    × All (λ s. IsFresh l.mail s) l.senders.items × (vec_len l.hired ≡ l.number)
    × (l.workers ≤ vec_capacity l.hired) × (vec_len l.senders + l.number ≡ l.workers)
