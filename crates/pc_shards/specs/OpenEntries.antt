-- The entries that a part of a history has: its polled records that are not complete.
use Rattle.std.specs.Prelude.{ℕ, Bool, not, List, map, filter}
use Rattle.pc_model.specs.declared.event.Event.{Event}
use Rattle.pc_model.specs.Record.{Record}
use Rattle.pc_model.specs.Given.{Given}
use Rattle.pc_model.specs.Known.{is_complete, polled_records}
use Rattle.pc_shards.specs.Entries.{Entry}

-- the entry of a record, which is busy or not and failed so often
abbrev pub entry_of : (Record → Bool) → (Record → ℕ) → Record → Entry
entry_of busy failures r = record { «record» = r; failures = failures r; is_busy = busy r }

-- the entries of a part's polled, incomplete records
abbrev pub open_entries : Given → List Event → ℕ → (Record → Bool) → (Record → ℕ) → List Entry
open_entries given h p busy failures = map (entry_of busy failures)
    (filter (λ r. not (is_complete h p r.offset)) (polled_records given h p))
