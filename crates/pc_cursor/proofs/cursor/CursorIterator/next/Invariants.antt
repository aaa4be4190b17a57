use Rattle.std.proofs.Common.{◌≡◌, ◌++◌, ◌-◌, length}
use Rattle.pc_cursor.specs.Cursor.{not_below, records_from}
use Rattle.pc_cursor.specs.Log.{all_records}
use Rattle.pc_cursor.specs.Entries.{IsIndex}
use Rattle.pc_cursor.proofs.cursor.CursorIterator.next.Given as goal

-- what is left stays, and so does the log
abbrev pub invariant-batches : goal.invariant-batches
invariant-batches l =
    (not_below l.self-inside.least (l.self-inside.records
    ++ records_from l.self-inside.bytes.now l.self-inside.place) ≡ l.fn.self.left)
    × (all_records l.self-inside.bytes.now ≡ l.fn.self.all)
    × IsIndex l.self-inside.bytes.now l.self-inside.entries.now

abbrev pub decreases-batches : goal.decreases-batches
decreases-batches l = length l.self-inside.bytes.now - l.self-inside.place
