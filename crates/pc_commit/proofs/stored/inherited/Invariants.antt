-- The pairs of the records that were given, and what is left.
use Rattle.std.proofs.Common.{length}
use Rattle.pc_cursor.specs.Log.{contents_of, records_of}
use Rattle.pc_commit.proofs.ResumeLemmas.{IsWalked}
use Rattle.pc_commit.proofs.stored.inherited.Given as goal

abbrev pub invariant-loop-record : goal.invariant-loop-record
invariant-loop-record l = IsWalked l.fn.stored (records_of (contents_of l.fn.log)) l.cursor.left l.pairs.items

abbrev pub decreases-loop-record : goal.decreases-loop-record
decreases-loop-record l = length l.cursor.left
