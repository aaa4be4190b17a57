use Rattle.std.proofs.Common.{◌≡◌}
use Rattle.pc_cursor.specs.Cursor.{not_below}
use Rattle.pc_cursor.proofs.cursor.next_of.Given as goal

-- the records that are passed over are below the least
abbrev pub invariant-records : goal.invariant-records
invariant-records l =
    (goal.iterator-records).can_next l.records × (goal.iterator-records).is_finite l.records
    × (not_below l.least l.records ≡ not_below l.least l.fn.records)
