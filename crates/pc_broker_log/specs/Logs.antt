-- The logs of the parts as a list, and what is taken of them.
use Rattle.std.specs.Prelude.{◌≡◌, ◌≤◌, ◌<◌, ℕ, ◌+◌, ◌-◌, true, List, [], ◌∷◌, ◌++◌, length, map, take, replicate, Option, Some, None, is_some, option_map, unwrap_or, nat_le, nat_lt, filter, slice_get, slice_set, if◌then◌else◌}
use Rattle.std.specs.List.{list_all, take_while, sum_by}
use Rattle.std.specs.Option.{option_flatten}
use Rattle.std.specs.Iterator.{YieldsFirstBy}
use Rattle.pc_model.specs.declared.limits.TheConstants.{MAX_PARTS, MAX_RECORDS}
use Rattle.pc_model.specs.Record.{Record}
use Rattle.pc_model.specs.Given.{rises_from}
use Rattle.pc_batch.specs.Batch.{Placed}
use Rattle.pc_batch.specs.Record.{plain}
use Rattle.pc_batch.specs.declared.record.RecordRef.{RecordRef}
use Rattle.pc_cursor.specs.Log.{contents_of, records_of}
use Rattle.pc_broker_log.specs.declared.fault.AddFault.{AddFault}
use Rattle.pc_broker_log.specs.declared.fault.AddFault.TheVariants.{UnknownPart, TwiceGiven, TooManyRecords}

-- the records of each log
abbrev pub logs_of : List (Option (List Placed)) → List (Option (List Record))
logs_of logs = map (λ log. option_map (λ batches. records_of (contents_of batches)) log) logs

-- the records of the part's log, if it has one
abbrev pub log_at : List (Option (List Record)) → ℕ → Option (List Record)
log_at logs part = option_flatten (slice_get logs part)

-- how many records all logs have
abbrev pub record_total : List (Option (List Record)) → ℕ
record_total logs = sum_by (λ log. length (unwrap_or log [])) logs

-- why a log of this many records is not taken for the part, the first cause that applies
abbrev pub add_refusal : List (Option (List Record)) → ℕ → ℕ → Option AddFault
add_refusal logs part records =
    if nat_le MAX_PARTS part then Some UnknownPart
    else if is_some (log_at logs part) then Some TwiceGiven
    else if nat_lt MAX_RECORDS (record_total logs + records) then Some TooManyRecords
    else None

-- the logs with one more, of this part
abbrev pub with_log : List (Option (List Record)) → ℕ → List Record → List (Option (List Record))
with_log logs part log = slice_set (logs ++ replicate (part + 1 - length logs) None) part (Some log)

-- the records up to an offset
abbrev pub upto : ℕ → List Record → List Record
upto last records = filter (λ r. nat_le r.offset last) records

-- the first records, at most this many, before the first that is above an offset
abbrev pub first_upto : ℕ → ℕ → List Record → List Record
first_upto most last records = take most (take_while (λ r. nat_le r.offset last) records)

-- the next records of a log: those that are still to be given, and all that are left of the log
pub record PolledView : Type 0 where
  pub left : List Record
  pub log : List Record

-- the record that was given was the first of those that were left of the log
abbrev pub IsFirstOf : List Record → Option RecordRef → List Record → Type 0
IsFirstOf old None new = new ≡ old
IsFirstOf old (Some r) new = old ≡ plain r ∷ new

-- the first record that was left was given, or nothing where none was
abbrev pub GivesPolled : PolledView → Option RecordRef → PolledView → Type 0
GivesPolled old given new = YieldsFirstBy plain (λ p. p.left) old given new
    × IsFirstOf old.log given new.log

-- a table of logs with this many records: parts are below the limit, the last place has a log, and
-- each log's offsets rise
pub record IsTable (logs : List (Option (List Record))) (records : ℕ) : Type 0 where
  pub counted : records ≡ record_total logs
  pub few : records ≤ MAX_RECORDS
  pub places : length logs ≤ MAX_PARTS
  pub greatest : 0 < length logs → is_some (log_at logs (length logs - 1)) ≡ true
  pub rise : list_all (λ log. rises_from 0 (unwrap_or log [])) logs ≡ true
