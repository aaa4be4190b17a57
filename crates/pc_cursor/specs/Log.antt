-- A log: batches one after the other up to the end of the bytes, their offsets rising.
use Rattle.std.specs.Prelude.{◌≡◌, ◌<◌, ℕ, zero, suc, List, [], ◌∷◌, ◌++◌, length, map, Option, Some, None, Result, Ok, Err, nat_le, if◌then◌else◌}
use Rattle.std.specs.List.{flat_map}
use Rattle.std.specs.Result.{result_err}
use Rattle.pc_model.specs.Record.{Record}
use Rattle.pc_bytes.specs.Fields.{◌>>=◌}
use Rattle.pc_batch.specs.declared.fault.BatchFault.{BatchFault}
use Rattle.pc_batch.specs.Batch.{Contents, Placed, IsBatch, batch_from, given_by}
use Rattle.pc_cursor.specs.declared.fault.LogFaultKind.TheVariants.{Batch, OffsetsFall}
use Rattle.pc_cursor.specs.declared.fault.LogFault.{LogFault}
use Rattle.pc_cursor.specs.declared.fault.CheckFault.{CheckFault}
use Rattle.pc_cursor.specs.declared.fault.CheckFault.TheVariants.{Bad, NoMemory}

-- ---- the grammar

-- a batch's offsets are above those of the batch before it
abbrev pub IsAbove : Option ℕ → ℕ → Type 0
IsAbove None base = Unit {0}
IsAbove (Some last) base = last < base

-- batches one after the other
abbrev pub AreBatches : Option ℕ → List ℕ → List Contents → Type 0
AreBatches before bytes [] = bytes ≡ []
AreBatches before bytes (b ∷ bs) = (front : List ℕ) × (back : List ℕ) × IsBatch front b
    × IsAbove before b.base × AreBatches (Some b.last) back bs × (bytes ≡ front ++ back)

-- the bytes are a log of these batches
abbrev pub IsLog : List ℕ → List Contents → Type 0
IsLog bytes batches = AreBatches None bytes batches

-- the records of a log: those of its batches, in order
abbrev pub records_of : List Contents → List Record
records_of batches = flat_map given_by batches

-- what batches say, without their places
abbrev pub contents_of : List Placed → List Contents
contents_of batches = map (λ b. b.contents) batches

-- ---- reading, up to the first fault

-- a batch's fault is the log's, at its place
abbrev pub told_at : ℕ → Result Placed BatchFault → Result Placed LogFault
told_at place (Ok b) = Ok b
told_at place (Err f) = Err (record { place = place; fault = Batch f })

-- a batch is above the one before it
abbrev pub above_of : ℕ → Option ℕ → Placed → Result Placed LogFault
above_of place None b = Ok b
above_of place (Some last) b =
    if nat_le b.contents.base last
    then Err (record { place = place; fault = OffsetsFall last b.contents.base })
    else Ok b

-- the next batch of the log
abbrev pub next_batch : List ℕ → ℕ → Option ℕ → Result Placed LogFault
next_batch log place before = told_at place (batch_from log place) >>= above_of place before

-- All batches from a place on, or the first fault. Each takes a byte at least, so that as many
-- turns suffice as there are bytes.
unfoldable pub batches_at : ℕ → List ℕ → ℕ → Option ℕ → Result (List Placed) LogFault
batches_at zero log place before = Ok []
batches_at (suc turns) log place before = if nat_le (length log) place then Ok [] else (do
  first ← next_batch log place before
  others ← batches_at turns log first.end (Some first.contents.last)
  Ok (first ∷ others))

-- all batches of the log, or its first fault
abbrev pub all_batches : List ℕ → Result (List Placed) LogFault
all_batches log = batches_at (length log) log 0 None

-- the first fault of a log, if it has one
abbrev pub log_fault : List ℕ → Option LogFault
log_fault log = result_err (all_batches log)

-- the batches of a log that was checked
abbrev pub list_of : Result (List Placed) LogFault → List Placed
list_of (Ok batches) = batches
list_of (Err f) = []

unfoldable pub batches_of : List ℕ → List Placed
batches_of log = list_of (all_batches log)

-- the records of a log that was checked
abbrev pub all_records : List ℕ → List Record
all_records log = records_of (contents_of (batches_of log))

-- every batch of the log can be read
pub record IsChecked (log : List ℕ) : Type 0 where
  pub whole : all_batches log ≡ Ok (batches_of log)

-- ---- what a check answers

-- a fault is the log's first, unless it is out of memory
abbrev pub Tells : CheckFault → Result (List Placed) LogFault → Type 0
Tells (Bad f) read = read ≡ Err f
Tells NoMemory read = Unit {0}

-- these batches, unless it is out of memory
abbrev pub GivesLog : Result (List Placed) CheckFault → List Contents → Type 0
GivesLog (Ok log) batches = contents_of log ≡ batches
GivesLog (Err e) batches = e ≡ NoMemory
