use Rattle.std.proofs.Common.{length, ◌-◌}
use Rattle.pc_cursor.proofs.LogLemmas.{Walks}
use Rattle.pc_cursor.proofs.log.Log.check.Given as goal

-- the batches so far, of which the entries are kept and the records counted
abbrev pub invariant-batches : goal.invariant-batches
invariant-batches l = Walks l.bytes l.entries.items l.place l.before l.records

abbrev pub decreases-batches : goal.decreases-batches
decreases-batches l = length l.bytes - l.place
