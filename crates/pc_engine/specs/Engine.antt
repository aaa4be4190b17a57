-- An engine as clauses see it, and what its type keeps.
use Rattle.std.specs.Prelude.{ℕ, ◌≡◌, ◌≤◌, ◌<◌, Bool, true, if◌then◌else◌, List, [], ◌∷◌, map, length, Option, None, unwrap_or}
use Rattle.std.specs.List.{range_with_len}
use Rattle.std.specs.Option.{option_or}
use Rattle.pc_model.specs.declared.setup.Setup.{Setup}
use Rattle.pc_model.specs.declared.outcome.Start.{Start}
use Rattle.pc_model.specs.declared.commit.Commit.{Commit}
use Rattle.pc_model.specs.declared.event.Event.{Event}
use Rattle.pc_model.specs.History.{History}
use Rattle.pc_model.specs.Given.{Given}
use Rattle.pc_model.specs.Jobs.{open_jobs}
use Rattle.pc_model.specs.Stored.{may_store}
use Rattle.pc_model.specs.Known.{assigned_by}
use Rattle.pc_model.specs.Record.{Record}
use Rattle.pc_task.specs.declared.finished.Finished.{Finished}
use Rattle.pc_task.specs.declared.task.Task.{Ghosts}
use Rattle.pc_task.specs.Jobs.{Outcomes}
use Rattle.pc_task.specs.Results.{finished_job}
use Rattle.pc_state.specs.Calls.{IsExpected}
use Rattle.pc_laws.specs.Lists.{In}
use Rattle.pc_state.specs.declared.state.State.{State}
use Rattle.pc_state.specs.State.{Knows}

-- an engine: what it was given, the function that it runs, its journal, and its link
pub record EngineView (L T : Type 0) : Type 0 where
  pub setup : Setup
  pub logs : List (Option (List Record))
  pub start : List Start
  pub is_told : Bool
  pub task : T
  pub journal : History
  pub link : L

-- what the engine was given, with the outcomes of its function
abbrev pub given_of : {L T : Type 0} → (T → Outcomes) → EngineView L T → Given
given_of outcome_of e = record {
  setup = e.setup;
  logs = e.logs;
  start = e.start;
  is_told = e.is_told;
  outcome = outcome_of e.task e.setup.settings.rules;
}

-- the commit of the part's first assignment, if there was one
abbrev pub first_assigned : List Event → ℕ → Option Commit
first_assigned [] p = None
first_assigned (e ∷ h) p = option_or (first_assigned h p) (assigned_by e p)

-- a commit of a part as a start
abbrev pub start_at : (ℕ → Commit) → ℕ → Start
start_at kept p = record { part = p; position = (kept p).position; map = (kept p).map }

-- what was stored for each part before the run: the commit of its first assignment, and what the
-- link keeps for a part that was not assigned yet
abbrev pub starts_by : List Event → (ℕ → Commit) → ℕ → List Start
starts_by h kept parts = map (λ p. start_at (λ q. unwrap_or (first_assigned h q) (kept q)) p)
    (range_with_len 0 parts)

-- the starts of an engine over this many logs: none where its link does not tell its store
abbrev pub starts_of : List Event → Bool → (ℕ → Commit) → ℕ → List Start
starts_of h told kept parts = if told then starts_by h kept parts else []

-- what an engine over these logs was given
abbrev pub given_by : Setup → List (Option (List Record)) → List Event → Bool → Outcomes
    → (ℕ → Commit) → Given
given_by setup logs h told outcomes kept = record {
  setup = setup;
  logs = logs;
  start = starts_of h told kept (length logs);
  is_told = told;
  outcome = outcomes setup.settings.rules;
}

-- what an engine's type keeps: its state is that of a legal history, a told link has one of the
-- commits that may be stored for each part, and the journal has a place for the result of each job
-- that is out
pub record IsEngine (given : Given) (kept : ℕ → Commit) (state : State) (places : ℕ)
    (h : List Event) : Type 0 where
  pub knows : Knows given h state
  pub stored : given.is_told ≡ true → (p : ℕ) → p < length given.logs
      → In (kept p) (may_store given h p)
  pub room : length (open_jobs h) ≤ places

-- a call leaves what the engine was given, its function, and its link
pub record Keeps {L T : Type 0} (outcome_of : T → Outcomes) (old new : EngineView L T) : Type 0 where
  pub given : given_of outcome_of new ≡ given_of outcome_of old
  pub task : new.task ≡ old.task
  pub link : new.link ≡ old.link

-- a call that asks the link leaves the rest, and the link's faults are counted on
pub record Asks {L T : Type 0} (outcome_of : T → Outcomes) (is_told : L → Bool) (faults : L → ℕ)
    (old new : EngineView L T) : Type 0 where
  pub given : given_of outcome_of new ≡ given_of outcome_of old
  pub task : new.task ≡ old.task
  pub told : is_told new.link ≡ is_told old.link
  pub count : faults old.link ≤ faults new.link

-- an engine whose history goes on expects the result: it is one of its function, and of a job that is
-- out
pub record Expects {L T : Type 0} {function : Ghosts T} (outcome_of : T → Outcomes)
    (same : T → T → Bool) (e : EngineView L T) (done : Finished T function) : Type 0 where
  pub job : IsExpected (given_of outcome_of e) e.journal.events (finished_job done)
  pub task : same done.task.now e.task ≡ true
