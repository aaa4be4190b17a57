-- The records of a batch, one after the other up to the end of the bytes, their offsets rising.
use Rattle.std.specs.Prelude.{ℕ, zero, suc, ◌+◌, ◌-◌, List, [], ◌∷◌, length, Result, Ok, Err}
use Rattle.pc_model.specs.Record.{Record}
use Rattle.pc_bytes.specs.Fields.{◌>>=◌}
use Rattle.pc_batch.specs.declared.fault.RecordKind.{RecordKind}
use Rattle.pc_batch.specs.declared.fault.BatchFault.{BatchFault}
use Rattle.pc_batch.specs.declared.fault.BatchFault.TheVariants.{BadRecord}
use Rattle.pc_batch.specs.declared.frame.Frame.{Frame}
use Rattle.pc_batch.specs.Record.{record_at}

-- a record's fault, told with how many bytes were left where its length field begins
abbrev pub told_at : {A : Type 0} → ℕ → Result A RecordKind → Result A (ℕ × RecordKind)
told_at left (Ok x) = Ok x
told_at left (Err kind) = Err (left, kind)

-- All records, or the first that does not read. Each takes a byte at least, so that as many turns
-- suffice as there are bytes.
unfoldable pub records_at : ℕ → Frame → ℕ → List ℕ → Result (List Record) (ℕ × RecordKind)
records_at zero frame least bytes = Ok []
records_at (suc turns) frame least [] = Ok []
records_at (suc turns) frame least (b ∷ bytes) = do
  first ← told_at (length (b ∷ bytes)) (record_at frame least (b ∷ bytes))
  others ← records_at turns frame (first.0.offset + 1) first.1
  Ok (first.0 ∷ others)

-- how many records there are, besides those that were found before; or the fault, with the record's
-- place where the bytes end at the place `end`
abbrev pub counted : ℕ → ℕ → Result (List Record) (ℕ × RecordKind) → Result ℕ BatchFault
counted found end (Ok records) = Ok (found + length records)
counted found end (Err fault) = Err (BadRecord (end - fault.0) fault.1)

-- the value, and what goes on from it and the bytes after it; nothing where there is no value
abbrev pub and_on : Result (Record × List ℕ) RecordKind → (Record × List ℕ → List Record) → List Record
and_on (Ok x) more = x.0 ∷ more x
and_on (Err kind) more = []

-- the records up to the first that does not read
unfoldable pub front_records : ℕ → Frame → ℕ → List ℕ → List Record
front_records zero frame least bytes = []
front_records (suc turns) frame least bytes = and_on (record_at frame least bytes) (λ x. front_records turns frame (x.0.offset + 1) x.1)
