-- Worked histories of one part and its log of three records, as a run writes them: the oldest event
-- first.
use Rattle.std.specs.Prelude.{ℕ, pos, Bool, true, not, List, [], ◌∷◌, take, reverse, codes, Some, refl}
use Rattle.std.specs.List.{list_all}
use Rattle.pc_model.specs.declared.choices.Order.TheVariants.{Partition}
use Rattle.pc_model.specs.declared.choices.Work.TheVariants.{Length}
use Rattle.pc_model.specs.declared.setup.Setup.{Setup}
use Rattle.pc_model.specs.declared.event.Event.{Event}
use Rattle.pc_model.specs.declared.event.Event.TheVariants.{Assign, Poll, Dispatch, Success, Failure, Stale, Commit, CommitFailed, Revoke, Lost, Crash, Tick, Drain, Done, Closed}
use Rattle.pc_model.specs.Record.{Record}
use Rattle.pc_model.specs.Given.{Given}
use Rattle.pc_model.specs.Defaults.{default_settings}
use Rattle.pc_model.specs.Outcomes.{outcome_of}
use Rattle.pc_model.specs.Ranges.{settings_fault}
use Rattle.pc_model.specs.Test.{is_legal}

-- a record of the log at time 0, without headers
abbrev pub row_record : ℕ → List ℕ → List ℕ → Record
row_record offset key value = record
    { offset = offset; time = pos 0; key = Some key; value = Some value; headers = [] }

-- the log: offsets 0 to 2, keys `a`, `b`, `a`, values `x`, `yy`, `zzz`
abbrev pub row_log : List Record
row_log = row_record 0 (codes "a") (codes "x") ∷ row_record 1 (codes "b") (codes "yy")
    ∷ row_record 2 (codes "a") (codes "zzz") ∷ []

-- the default setup
unfoldable pub plain_setup : Setup
unfolding settings_fault
plain_setup = record { settings = default_settings; in_range = refl }

-- the records of a part run one after the other, and the first one fails twice
unfoldable pub retry_setup : Setup
unfolding settings_fault
retry_setup = record {
  settings = record default_settings {
    order = Partition;
    rules = record
        { work = Length; fails = record { part = 0; offset = 0; times = 2 } ∷ [] };
  };
  in_range = refl;
}

-- a map of eight characters is above its share of the limit
unfoldable pub pressed_setup : Setup
unfolding settings_fault
pressed_setup = record { settings = record default_settings { map_limit = 8 }; in_range = refl }

-- the log as part 0 under a setup, nothing stored before, over a link that tells its store
abbrev pub row_given : Setup → Given
row_given setup = record {
  setup = setup;
  logs = Some row_log ∷ [];
  start = [];
  is_told = true;
  outcome = outcome_of setup.settings.rules;
}

-- the map of the bits 0 and 1
abbrev pub two_bits : List ℕ
two_bits = codes "bAACAg=="

-- a poll of all three records, two dispatches, a success of the second and a commit with its map
abbrev pub first_path : List Event
first_path = Assign 0 1 0 [] ∷ Poll 0 3 2 ∷ Dispatch 1 1 0 0 1 1 ∷ Dispatch 2 2 0 1 1 1 ∷ Success 2
    (codes "2")
    ∷ Commit 0 0 two_bits 8 ∷ []

-- the same, and then a crash and an assignment from what was stored: offset 1 does not run again
abbrev pub crash_and_resume : List Event
crash_and_resume = Assign 0 1 0 [] ∷ Poll 0 3 2 ∷ Dispatch 1 1 0 0 1 1 ∷ Dispatch 2 2 0 1 1 1
    ∷ Success 2 (codes "2")
    ∷ Commit 0 0 two_bits 8 ∷ Crash ∷ Assign 0 3 0 two_bits ∷ Poll 0 3 2 ∷ Dispatch 3 1 0 0 3 1
    ∷ Dispatch 4 2 0 2 3 1 ∷ []

-- a failure, two ticks, and the second attempt once its time has come
abbrev pub retry : List Event
retry = Assign 0 1 0 [] ∷ Poll 0 3 2 ∷ Dispatch 1 1 0 0 1 1 ∷ Failure 1 1 100 ∷ Tick 99 ∷ Tick 100
    ∷ Dispatch 2 1 0 0 1 2 ∷ []

-- a result of an epoch that a loss ended
abbrev pub stale_result : List Event
stale_result = Assign 0 1 0 [] ∷ Poll 0 3 2 ∷ Dispatch 1 1 0 0 1 1 ∷ Lost 0 1 ∷ Assign 0 3 0 []
    ∷ Poll 0 3 2 ∷ Stale 1
    ∷ Dispatch 2 2 0 0 3 1 ∷ []

-- a commit whose map blocks the part, and one that frees it
abbrev pub pressure : List Event
pressure = Assign 0 1 0 [] ∷ Poll 0 2 1 ∷ Dispatch 1 1 0 0 1 1 ∷ Dispatch 2 2 0 1 1 1 ∷ Success 2
    (codes "2")
    ∷ Commit 0 0 two_bits 8 ∷ Success 1 (codes "1") ∷ Commit 0 2 [] 0 ∷ Poll 0 1 2 ∷ []

-- a drain, the results that were still out, a commit, and the end
abbrev pub drain_and_close : List Event
drain_and_close = Assign 0 1 0 [] ∷ Poll 0 3 2 ∷ Dispatch 1 1 0 0 1 1 ∷ Dispatch 2 1 0 1 1 1
    ∷ Dispatch 3 1 0 2 1 1 ∷ Drain
    ∷ Success 3 (codes "3") ∷ Success 1 (codes "1") ∷ Success 2 (codes "2") ∷ Commit 0 3 [] 0 ∷ Done
    ∷ []

-- a commit that failed, and after a crash an assignment from what was stored before it
abbrev pub failed_commit : List Event
failed_commit = Assign 0 1 0 [] ∷ Poll 0 3 2 ∷ Dispatch 1 1 0 0 1 1 ∷ Success 1 (codes "1")
    ∷ CommitFailed 0 1 [] 0 ∷ Crash
    ∷ Assign 0 3 0 [] ∷ []

-- the same where the failed commit was stored nevertheless
abbrev pub failed_commit_applied : List Event
failed_commit_applied = Assign 0 1 0 [] ∷ Poll 0 3 2 ∷ Dispatch 1 1 0 0 1 1 ∷ Success 1 (codes "1")
    ∷ CommitFailed 0 1 [] 0 ∷ Crash
    ∷ Assign 0 3 1 [] ∷ []

-- the first i lines of a history and another line in place of the next, the newest first
abbrev pub with_line : List Event → ℕ → Event → List Event
with_line history i line = line ∷ reverse (take i history)

-- neighbours of the worked histories under the plain setup: in each the last line differs from the
-- lawful one by a field, or is another line
abbrev pub neighbours : List (List Event)
neighbours =
    -- a part without a log; another epoch; another position; a map that was not stored
    with_line first_path 0 (Assign 1 1 0 []) ∷ with_line first_path 0 (Assign 0 2 0 [])
    ∷ with_line first_path 0 (Assign 0 1 1 []) ∷ with_line first_path 0 (Assign 0 1 0 two_bits)
    -- nothing is held yet; a part is assigned twice
    ∷ with_line first_path 0 (Poll 0 3 2) ∷ with_line first_path 1 (Assign 0 2 0 [])
    -- more records than there are; another last one; none
    ∷ with_line first_path 1 (Poll 0 4 2) ∷ with_line first_path 1 (Poll 0 3 1)
    ∷ with_line first_path 1 (Poll 0 0 2)
    -- another ticket, worker, offset, epoch and attempt; a record that is out already
    ∷ with_line first_path 2 (Dispatch 2 1 0 0 1 1) ∷ with_line first_path 2
    (Dispatch 1 256 0 0 1 1)
    ∷ with_line first_path 2 (Dispatch 1 1 0 1 1 1) ∷ with_line first_path 2 (Dispatch 1 1 0 0 2 1)
    ∷ with_line first_path 2 (Dispatch 1 1 0 0 1 2) ∷ with_line first_path 3 (Dispatch 2 2 0 0 1 1)
    -- a ticket that is not out; another answer; a failure that the rules do not give; a stale
    -- result of a current ticket
    ∷ with_line first_path 4 (Success 3 (codes "2")) ∷ with_line first_path 4
    (Success 2 (codes "3"))
    ∷ with_line first_path 4 (Failure 2 1 100) ∷ with_line first_path 4 (Stale 2)
    ∷ with_line first_path 5 (Success 2 (codes "2"))
    -- another position, map and size; the highest success plus one
    ∷ with_line first_path 5 (Commit 0 1 [] 0) ∷ with_line first_path 5 (Commit 0 0 [] 8)
    ∷ with_line first_path 5 (Commit 0 0 two_bits 9) ∷ with_line first_path 5
    (CommitFailed 0 2 [] 0)
    -- a revocation without a commit before it, and of another epoch; a loss of another epoch
    ∷ with_line first_path 5 (Revoke 0 1) ∷ with_line first_path 6 (Revoke 0 2)
    ∷ with_line first_path 5 (Lost 0 2)
    -- a clock that stands still; an end with records left; after a crash a success, a poll, and
    -- offset 1 again
    ∷ with_line first_path 5 (Tick 0) ∷ with_line first_path 6 Done ∷ with_line crash_and_resume 7
    (Success 1 (codes "1"))
    ∷ with_line crash_and_resume 7 (Poll 0 3 2) ∷ with_line crash_and_resume 7
    (Assign 0 2 0 two_bits)
    ∷ with_line crash_and_resume 10 (Dispatch 4 2 0 1 3 1)
    -- a stale result that counts as a success; a current one that is called stale
    ∷ with_line stale_result 6 (Success 1 (codes "1")) ∷ with_line stale_result 8 (Stale 2)
    -- a second drain; an assignment while it drains; an end before the commit; an event after the
    -- end
    ∷ with_line drain_and_close 6 Drain ∷ with_line drain_and_close 6 (Poll 0 1 2)
    ∷ with_line drain_and_close 9 Done
    ∷ with_line drain_and_close 11 Closed
    -- what a failed commit may have stored is not what was assigned before
    ∷ with_line failed_commit 6 (Assign 0 3 2 []) ∷ []

-- neighbours under the setup with retries: another ready time and code; a success that the rules do
-- not give; the record before its time, and a later one of its key
abbrev pub retry_neighbours : List (List Event)
retry_neighbours = with_line retry 3 (Failure 1 1 99) ∷ with_line retry 3 (Failure 1 2 100)
    ∷ with_line retry 3 (Success 1 (codes "1"))
    ∷ with_line retry 5 (Dispatch 2 1 0 0 1 2) ∷ with_line retry 6 (Dispatch 2 1 0 1 1 1)
    ∷ with_line retry 6 (Dispatch 2 1 0 0 1 1) ∷ []

-- neighbours under pressure: a poll above the part's high while it is blocked
abbrev pub pressed_neighbours : List (List Event)
pressed_neighbours = with_line pressure 6 (Poll 0 1 2) ∷ with_line pressure 7
    (Commit 0 2 two_bits 8) ∷ []

-- whether each of the histories is refused
abbrev pub are_refused : Given → List (List Event) → Bool
are_refused given histories = list_all (λ h. not (is_legal given h)) histories
