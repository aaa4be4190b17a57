-- Worked histories of runs by their steps, the oldest event first, over logs of three records.
use Rattle.std.specs.Prelude.{Bool, not, ◌&&◌, List, [], ◌∷◌, codes, Some, refl}
use Rattle.std.specs.List.{list_all}
use Rattle.pc_model.specs.declared.choices.Work.TheVariants.{Length}
use Rattle.pc_model.specs.declared.setup.Setup.{Setup}
use Rattle.pc_model.specs.declared.event.Event.{Event}
use Rattle.pc_model.specs.declared.event.Event.TheVariants.{Assign, Poll, Dispatch, Success, Failure, Stale, Commit, CommitFailed, Revoke, Lost, Crash, Tick, Drain, Done, Closed}
use Rattle.pc_model.specs.declared.step.Act.TheVariants as act
use Rattle.pc_model.specs.declared.step.Step.{Step}
use Rattle.pc_model.specs.Given.{Given}
use Rattle.pc_model.specs.Defaults.{default_settings}
use Rattle.pc_model.specs.Ranges.{settings_fault}
use Rattle.pc_model.specs.Rows.{plain_setup, row_given, row_log, with_line}
use Rattle.pc_model.specs.Test.{is_legal}
use Rattle.pc_model.specs.Steps.{follows}
use Rattle.pc_model.specs.Pace.{is_paced}
use Rattle.pc_model.specs.Bound.{Load}

-- the first record fails more often than it may
unfoldable pub failing_setup : Setup
unfolding settings_fault
failing_setup = record {
  settings = record default_settings {
    rules = record
        { work = Length; fails = record { part = 0; offset = 0; times = 5 } ∷ [] };
    delays = 0 ∷ [];
    give_up = 2;
  };
  in_range = refl;
}

-- two parts with the log of three records, under the default setup
unfoldable pub two_parts : Given
two_parts = record (row_given plain_setup) { logs = Some row_log ∷ Some row_log ∷ [] }

-- whether the history is that of a run by the steps: legal, by the steps, and paced
abbrev pub is_run : Given → List Step → List Event → Bool
is_run given steps h = is_legal given h && (follows given steps h && is_paced given steps h)

-- ---- a run with a crash

-- one part is assigned, and after one success all is forgotten
abbrev pub crash_steps : List Step
crash_steps = record { count = 0; act = act.Assign 0 } ∷ record { count = 1; act = act.Crash } ∷ []

-- the second job's result comes too late; after the crash all records run again
abbrev pub run_with_a_crash : List Event
run_with_a_crash = Assign 0 1 0 [] ∷ Poll 0 3 2 ∷ Dispatch 1 0 0 0 1 1 ∷ Dispatch 2 1 0 1 1 1
    ∷ Success 1 (codes "1") ∷ Crash ∷ Assign 0 3 0 [] ∷ Stale 2 ∷ Poll 0 3 2
    ∷ Dispatch 3 0 0 0 3 1 ∷ Success 3 (codes "1") ∷ Dispatch 4 0 0 1 3 1 ∷ Dispatch 5 1 0 2 3 1
    ∷ Success 5 (codes "3") ∷ Success 4 (codes "2") ∷ Drain ∷ Commit 0 3 [] 0 ∷ Done ∷ []

-- ---- a run with a record that is given up

abbrev pub assign_step : List Step
assign_step = record { count = 0; act = act.Assign 0 } ∷ []

abbrev pub undrained_run : List Event
undrained_run = Assign 0 1 0 [] ∷ Poll 0 3 2 ∷ Dispatch 1 0 0 0 1 1 ∷ Failure 1 1 0
    ∷ Dispatch 2 0 0 0 1 2 ∷ Failure 2 1 0 ∷ Dispatch 3 0 0 1 1 1 ∷ Success 3 (codes "2")
    ∷ Dispatch 4 0 0 2 1 1 ∷ Success 4 (codes "3") ∷ Drain ∷ Commit 0 0 (codes "bAADBg==") 8 ∷ []

-- ---- a run whose last step is cut short

abbrev pub two_parts_steps : List Step
two_parts_steps = record { count = 0; act = act.Assign 0 } ∷ record { count = 0; act = act.Assign 1 }
    ∷ record { count = 0; act = act.Crash } ∷ []

-- the second of the two parts is not assigned again
abbrev pub run_cut_short : List Event
run_cut_short = Assign 0 1 0 [] ∷ Assign 1 1 0 [] ∷ Crash ∷ Assign 0 3 0 [] ∷ []

-- ---- a run with a revocation

abbrev pub revoke_steps : List Step
revoke_steps = record { count = 0; act = act.Assign 0 } ∷ record { count = 1; act = act.Revoke 0 } ∷ []

abbrev pub run_with_a_revocation : List Event
run_with_a_revocation = Assign 0 1 0 [] ∷ Poll 0 3 2 ∷ Dispatch 1 0 0 0 1 1 ∷ Success 1 (codes "1")
    ∷ Commit 0 1 [] 0 ∷ Revoke 0 1 ∷ Drain ∷ Done ∷ []

-- ---- neighbours: legal, and no runs by their steps

-- whether each history is legal and none is that of a run by the steps
abbrev pub are_strays : Given → List Step → List (List Event) → Bool
are_strays given steps histories = list_all
    (λ h. is_legal given h && not (follows given steps h && is_paced given steps h)) histories

abbrev pub crash_strays : List (List Event)
crash_strays =
    -- a part that no step loses; a crash before its count; one more crash than there are steps
    with_line run_with_a_crash 5 (Lost 0 1) ∷ with_line run_with_a_crash 4 Crash
    ∷ with_line run_with_a_crash 7 Crash
    -- a result within the block of the crash, which has not assigned the part again
    ∷ with_line run_with_a_crash 6 (Stale 2)
    -- a dispatch though the crash is due; one while a poll is open
    ∷ with_line run_with_a_crash 5 (Dispatch 3 0 0 2 1 1)
    ∷ (Dispatch 1 0 0 0 1 1 ∷ Poll 0 1 0 ∷ Assign 0 1 0 [] ∷ [])
    -- a commit that is not due; a tick that no record waits for
    ∷ with_line run_with_a_crash 5 (Commit 0 1 [] 0) ∷ with_line run_with_a_crash 5 (Tick 5)
    -- a drain before the last step; a drain while jobs are out; an end without a drain; a close
    ∷ with_line run_with_a_crash 2 Drain ∷ with_line run_with_a_crash 10 Drain
    ∷ with_line run_with_a_crash 0 Done ∷ with_line run_with_a_crash 17 Closed
    -- a second commit though all is stored
    ∷ with_line run_with_a_crash 17 (Commit 0 3 [] 0)
    -- an event after a commit of the drain that failed
    ∷ (Commit 0 3 [] 0 ∷ with_line run_with_a_crash 16 (CommitFailed 0 3 [] 0)) ∷ []

-- after a tick that no record waits for, another event than the result of a failure
abbrev pub failing_strays : List (List Event)
failing_strays = (Dispatch 2 0 0 1 1 1 ∷ with_line undrained_run 3 (Tick 7))
    ∷ (Success 4 (codes "3") ∷ with_line undrained_run 9 (Tick 7))
    -- a dispatch of the record that was given up is not even legal; a drain before the others ran
    ∷ with_line undrained_run 6 Drain ∷ []

-- the other part first; the parts assigned again in falling order; an event in place of the second
-- assignment
abbrev pub cut_strays : List (List Event)
cut_strays = with_line run_cut_short 0 (Assign 1 1 0 []) ∷ with_line run_cut_short 3 (Assign 1 3 0 [])
    ∷ with_line run_cut_short 4 (Poll 0 3 2) ∷ []

-- a commit that begins a revocation, and another event than the revocation after it
abbrev pub revoke_strays : List (List Event)
revoke_strays = with_line run_with_a_revocation 5 (Dispatch 2 0 0 1 1 1)
    ∷ with_line run_with_a_revocation 5 (Commit 0 1 [] 0) ∷ with_line run_with_a_revocation 4 (Lost 0 1)
    ∷ []

-- ---- the bound of a long run

-- twelve parts over 100,000 records, of which every fiftieth fails once: each part is assigned and
-- assigned again at a crash, and two of them are lost or given back and assigned once more
abbrev pub long_run_loads : List Load
long_run_loads = record { assigns = 2; records = 8334; failures = 334 }
    ∷ record { assigns = 2; records = 8334; failures = 0 }
    ∷ record { assigns = 2; records = 8334; failures = 334 }
    ∷ record { assigns = 3; records = 8334; failures = 0 }
    ∷ record { assigns = 2; records = 8333; failures = 333 }
    ∷ record { assigns = 2; records = 8333; failures = 0 }
    ∷ record { assigns = 2; records = 8333; failures = 333 }
    ∷ record { assigns = 3; records = 8333; failures = 0 }
    ∷ record { assigns = 2; records = 8333; failures = 333 }
    ∷ record { assigns = 2; records = 8333; failures = 0 }
    ∷ record { assigns = 2; records = 8333; failures = 333 }
    ∷ record { assigns = 2; records = 8333; failures = 0 } ∷ []
