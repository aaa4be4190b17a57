-- What a run is given: the setup, the logs, what was stored before, whether the link tells its store,
-- and the outcomes of the function that is run on the records.
use Rattle.std.specs.Prelude.{ℕ, suc, ◌-◌, ◌^◌, Bool, true, ◌&&◌, ◌==◌, nat_le, nat_lt, List, [], ◌∷◌, length, Option, is_some, unwrap_or, find, slice_get}
use Rattle.std.specs.List.{list_all, range_with_len}
use Rattle.std.specs.Option.{option_map_or, option_flatten}
use Rattle.pc_model.specs.declared.setup.Setup.{Setup}
use Rattle.pc_model.specs.declared.outcome.Outcome.{Outcome}
use Rattle.pc_model.specs.declared.outcome.Start.{Start}
use Rattle.pc_model.specs.declared.commit.Commit.{Commit}
use Rattle.pc_model.specs.Record.{Record}

-- the five things that every definition of a history is read against. The log of part p stands at
-- place p of `logs`. The outcome of an attempt goes by the part, the record, and the attempt, counted
-- from 1, and by nothing else
pub record Given : Type 0 where
  pub setup : Setup
  pub logs : List (Option (List Record))
  pub start : List Start
  pub is_told : Bool
  pub outcome : ℕ → Record → ℕ → Outcome

-- whether the part has a log
abbrev pub has_log : Given → ℕ → Bool
has_log given p = is_some (option_flatten (slice_get given.logs p))

-- the records of the part's log, in order, and none where it has no log
abbrev pub records_of : Given → ℕ → List Record
records_of given p = unwrap_or (option_flatten (slice_get given.logs p)) []

-- the record of the part at an offset, if there is one
abbrev pub record_at : Given → ℕ → ℕ → Option Record
record_at given p o = find (λ r. r.offset == o) (records_of given p)

-- the parts that may have a log
abbrev pub parts_of : Given → List ℕ
parts_of given = range_with_len 0 (length given.logs)

-- what was stored without a position: nothing was read, and nothing is passed over
abbrev pub no_commit : Commit
no_commit = record { position = 0; map = [] }

-- the commit that was stored for the part before the run
abbrev pub start_of : Given → ℕ → Commit
start_of given p = option_map_or (λ s. record { position = s.position; map = s.map })
    (find (λ s. s.part == p) given.start) no_commit

-- whether the offsets of a log rise, all of them at least `least` and at most 2^63 - 2
abbrev pub rises_from : ℕ → List Record → Bool
rises_from least [] = true
rises_from least (r ∷ rs) = nat_le least r.offset
    && (nat_lt r.offset (2 ^ 63 - 1) && rises_from (suc r.offset) rs)

-- whether each log's offsets rise
abbrev pub all_logs_rise : Given → Bool
all_logs_rise given = list_all (λ log. rises_from 0 (unwrap_or log [])) given.logs
