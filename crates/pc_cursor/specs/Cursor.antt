-- What a cursor has still to give.
use Rattle.std.specs.Prelude.{◌≡◌, ◌≤◌, ℕ, zero, suc, List, [], ◌∷◌, ◌++◌, length, Option, None, Some, Result, Ok, Err, nat_le, filter}
use Rattle.std.specs.Iterator.{YieldsFirstBy}
use Rattle.std.specs.List.{take_while}
use Rattle.pc_model.specs.Record.{Record}
use Rattle.pc_batch.specs.declared.fault.BatchFault.{BatchFault}
use Rattle.pc_batch.specs.declared.record.RecordRef.{RecordRef}
use Rattle.pc_batch.specs.Batch.{Placed, batch_from, given_by}
use Rattle.pc_batch.specs.Record.{plain}

-- a cursor: the records of its log, and those that it has still to give
pub record CursorView : Type 0 where
  pub all : List Record
  pub left : List Record

-- the records at or above an offset
abbrev pub not_below : ℕ → List Record → List Record
not_below offset records = filter (λ r. nat_le offset r.offset) records

-- a cursor gave the first record that was left, or nothing where none was; its log stays
abbrev pub GivesNext : CursorView → Option RecordRef → CursorView → Type 0
GivesNext old given new = YieldsFirstBy plain (λ c. c.left) old given new × (new.all ≡ old.all)

-- A cursor gave the first record that was left, if that is not above an offset; else it is as it was.
-- Its log stays.
abbrev pub GivesUpto : ℕ → CursorView → Option RecordRef → CursorView → Type 0
GivesUpto last old None new =
    (take_while (λ r. nat_le r.offset last) old.left ≡ []) × (new ≡ old)
GivesUpto last old (Some r) new =
    (old.left ≡ plain r ∷ new.left) × (r.offset ≤ last) × (new.all ≡ old.all)

-- what goes on after a batch; nothing where there is none
abbrev pub and_on : Result Placed BatchFault → (Placed → List Record) → List Record
and_on (Ok b) more = more b
and_on (Err f) more = []

-- the records of the batches from a place on, up to the first that does not read
unfoldable pub front_from : ℕ → List ℕ → ℕ → List Record
front_from zero log place = []
front_from (suc turns) log place = and_on (batch_from log place)
    (λ b. given_by b.contents ++ front_from turns log b.end)

-- Each batch takes a byte at least, so that as many turns suffice as there are bytes.
abbrev pub records_from : List ℕ → ℕ → List Record
records_from log place = front_from (length log) log place
