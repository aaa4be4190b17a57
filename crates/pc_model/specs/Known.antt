-- What a held part knows: its records that were polled, or that the map of its assignment speaks
-- of, and which are complete.
use Rattle.std.specs.Prelude.{ℕ, ◌+◌, Bool, false, ◌&&◌, ◌||◌, ◌==◌, nat_lt, nat_le, if◌then◌else◌, List, [], ◌∷◌, ◌++◌, map, take, drop, Option, Some, None, is_some, filter, unwrap_or}
use Rattle.std.specs.Option.{option_map_or}
use Rattle.pc_model.specs.declared.event.Event.{Event}
use Rattle.pc_model.specs.declared.event.Event.TheVariants.{Assign, Poll, Success}
use Rattle.pc_model.specs.declared.commit.Commit.{Commit}
use Rattle.pc_model.specs.declared.commit.SizedCommit.{SizedCommit}
use Rattle.pc_model.specs.Record.{Record}
use Rattle.pc_model.specs.Given.{Given, records_of, no_commit}
use Rattle.pc_model.specs.Jobs.{Job, job_of}
use Rattle.pc_model.specs.Epochs.{epoch_of}
use Rattle.pc_model.specs.Stored.{map_end, passes}
use Rattle.pc_model.specs.Marks.{Mark, high_at, position_at, commit_at}

-- the commit that this event assigns the part with
abbrev pub assigned_by : Event → ℕ → Option Commit
assigned_by (Assign p e position text) q = if p == q then Some
    (record { position = position; map = text }) else None
assigned_by _ q = None

-- the position and the map of the part's last assignment
abbrev pub assigned_commit : List Event → ℕ → Commit
assigned_commit [] p = no_commit
assigned_commit (e ∷ h) p = unwrap_or (assigned_by e p) (assigned_commit h p)

-- the offset from which on the part reads its log
abbrev pub begin_of : List Event → ℕ → ℕ
begin_of h p = (assigned_commit h p).position

-- how many records this event polls of the part
abbrev pub polled_by : Event → ℕ → Option ℕ
polled_by (Poll p count last) q = if p == q then Some count else None
polled_by _ q = None

-- how many records of the part were polled since its last assignment
abbrev pub polled_count : List Event → ℕ → ℕ
polled_count [] p = 0
polled_count (e ∷ h) p =
    if is_some (assigned_by e p) then 0 else option_map_or (λ count. polled_count h p + count)
    (polled_by e p) (polled_count h p)

-- the part's records from its begin on
abbrev pub records_from_begin : Given → List Event → ℕ → List Record
records_from_begin given h p = filter (λ r. nat_le (begin_of h p) r.offset) (records_of given p)

-- those that were polled
unfoldable pub polled_records : Given → List Event → ℕ → List Record
polled_records given h p = take (polled_count h p) (records_from_begin given h p)

-- those that were not
unfoldable pub unpolled_records : Given → List Event → ℕ → List Record
unpolled_records given h p = drop (polled_count h p) (records_from_begin given h p)

-- those that were polled, and behind them those of which the assignment's map says something
unfoldable pub known_records : Given → List Event → ℕ → List Record
known_records given h p = polled_records given h p ++ filter
    (λ r. nat_lt r.offset (map_end (assigned_commit h p))) (unpolled_records given h p)

-- whether the job is one of the part and the offset in the epoch
abbrev pub is_job_at : Option Job → ℕ → ℕ → ℕ → Bool
is_job_at None p e o = false
is_job_at (Some j) p e o = (j.part == p) && (j.epoch == e) && (j.offset == o)

-- whether this event, which follows the history, is a success of the offset in the epoch
abbrev pub is_success_at : Event → List Event → ℕ → ℕ → ℕ → Bool
is_success_at (Success t answer) h p e o = is_job_at (job_of h t) p e o
is_success_at _ h p e o = false

-- whether the offset of the part succeeded in the epoch
abbrev pub has_succeeded : List Event → ℕ → ℕ → ℕ → Bool
has_succeeded [] p e o = false
has_succeeded (v ∷ h) p e o = is_success_at v h p e o || has_succeeded h p e o

-- whether the offset is complete: it succeeded in the present epoch, or the assignment's commit
-- passes over it
unfoldable pub is_complete : List Event → ℕ → ℕ → Bool
is_complete h p o = has_succeeded h p (epoch_of h p) o || passes (assigned_commit h p) o

-- each known offset with whether it is complete
unfoldable pub marks_of : Given → List Event → ℕ → List Mark
marks_of given h p = map (λ r. record { offset = r.offset; is_complete = is_complete h p r.offset })
    (known_records given h p)

-- the greatest complete offset of the part, if there is one
abbrev pub high_of : Given → List Event → ℕ → Option ℕ
high_of given h p = high_at (marks_of given h p)

-- the least incomplete offset of the part, or else the offset after the known ones
abbrev pub position_of : Given → List Event → ℕ → ℕ
position_of given h p = position_at (begin_of h p) (marks_of given h p)

-- the commit of the part as it stands
abbrev pub commit_of : Given → List Event → ℕ → SizedCommit
commit_of given h p = commit_at given.setup.settings.map_limit (begin_of h p) (marks_of given h p)
