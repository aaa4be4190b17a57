use Rattle.std.proofs.Common.{◌≤◌, ◌-◌, length}
use Rattle.std.specs.Prelude.{vec_len, vec_capacity}
use Rattle.pc_broker_log.proofs.TableLemmas.{IsGrown}
use Rattle.pc_broker_log.proofs.logs.grow.Given as goal

-- the new places so far have no log, and there is room for all
abbrev pub invariant-places : goal.invariant-places
invariant-places l =
    IsGrown l.initial.logs.items l.logs.items
    × (l.len ≤ vec_capacity l.logs)
    × (length l.logs.items - length l.initial.logs.items ≤ l.len - length l.initial.logs.items)

abbrev pub decreases-places : goal.decreases-places
decreases-places l = l.len - vec_len l.logs
