-- What a log keeps of its batches: an entry for each.
use Rattle.std.specs.Prelude.{◌≡◌, ℕ, ◌+◌, List, [], ◌∷◌, length}
use Rattle.pc_batch.specs.Batch.{Placed, given_by}
use Rattle.pc_cursor.specs.declared.entry.Entry.{Entry}
use Rattle.pc_cursor.specs.Log.{batches_of, IsChecked}

-- the entries of batches, the first at a place, after this many records
abbrev pub entries_from : ℕ → ℕ → List Placed → List Entry
entries_from place before [] = []
entries_from place before (b ∷ bs) = record
    { place = place; base = b.contents.base; last = b.contents.last; before = before }
    ∷ entries_from b.end (before + length (given_by b.contents)) bs

-- the log was checked, and these are the entries of its batches
pub record IsIndex (log : List ℕ) (entries : List Entry) : Type 0 where
  pub checked : IsChecked log
  pub kept : entries ≡ entries_from 0 0 (batches_of log)
