-- What a control turn does, by what the link did at its call.
use Rattle.std.specs.Prelude.{ℕ, ◌≡◌, ◌≤◌, ◌↔◌, ◌∷◌, Bool, true, false, IsTrue, List, Result, Ok, Err, Some}
use Rattle.pc_model.specs.declared.event.Event.{Event}
use Rattle.pc_model.specs.declared.outcome.Outcome.{Outcome}
use Rattle.pc_model.specs.declared.outcome.Outcome.TheVariants.{Good, Bad}
use Rattle.pc_model.specs.Given.{Given}
use Rattle.pc_model.specs.Known.{commit_of}
use Rattle.pc_model.specs.Retry.{failures_of}
use Rattle.pc_offset_client.specs.declared.fault.ClientFault.{ClientFault}
use Rattle.pc_task.specs.declared.finished.Finished.{Finished}
use Rattle.pc_task.specs.declared.task.Task.{Ghosts}
use Rattle.pc_task.specs.Jobs.{Outcomes, PlainJob}
use Rattle.pc_task.specs.Results.{finished_job}
use Rattle.pc_mailbox.specs.Ends.{Receiving, TakenNext}
use Rattle.pc_engine.specs.declared.engine.Committed.{Committed as Receipt}
use Rattle.pc_engine.specs.declared.fault.EngineFault.{EngineFault}
use Rattle.pc_engine.specs.declared.fault.EngineFault.TheVariants as fault
use Rattle.pc_engine.specs.Effect.{Does, IsStored, KeepsStore, Step, commit_refusal, commit_step, poll_step, settle_event, tick_step}
use Rattle.pc_engine.specs.Ending.{drain_step, finish_step}
use Rattle.pc_engine.specs.Engine.{EngineView, Expects, given_of}
use Rattle.pc_engine.specs.Stand.{DoesAlone, Stand}
use Rattle.pc_drain.specs.declared.turn.Turn.{Turn}
use Rattle.pc_drain.specs.declared.turn.Turn.TheVariants.{Went, Idle, Done, Undrained, Client, JournalFull, NoMemory}
use Rattle.pc_drain.specs.declared.action.Action.{Action}
use Rattle.pc_drain.specs.declared.action.Action.TheVariants.{MoveClock, Commit, Poll, BeginDrain, Save, Finish, Rest}

-- ---- what a call answered, as a turn

-- a refusal: no other fault comes of the calls of a turn
abbrev pub IsRefusal : EngineFault → Type 0
IsRefusal fault.JournalFull = Unit {0}
IsRefusal fault.NoMemory = Unit {0}
IsRefusal _ = ⊥

abbrev pub refused_turn : EngineFault → Turn
refused_turn fault.JournalFull = JournalFull
refused_turn _ = NoMemory

abbrev pub call_turn : {A : Type 0} → Result A EngineFault → Turn
call_turn (Ok it) = Went
call_turn (Err fault) = refused_turn fault

-- the same of a commit, which may also fail
abbrev pub IsCommitRefusal : EngineFault → Type 0
IsCommitRefusal (fault.Client failed) = Unit {0}
IsCommitRefusal fault = IsRefusal fault

-- a commit that was due: that it failed is no end
abbrev pub commit_turn : Result Receipt EngineFault → Turn
commit_turn (Err (fault.Client failed)) = Went
commit_turn answer = call_turn answer

-- a commit that was to save
abbrev pub save_turn : Result Receipt EngineFault → Turn
save_turn (Err (fault.Client failed)) = Client failed
save_turn answer = call_turn answer

-- the same of the end, which may also name a record that is not finished
abbrev pub IsEndRefusal : EngineFault → Type 0
IsEndRefusal (fault.NotDone p o) = Unit {0}
IsEndRefusal fault = IsRefusal fault

-- the end, or the record for which there is none
abbrev pub finish_turn : List Event → Result (Unit {0}) EngineFault → Turn
finish_turn h (Ok done) = Done
finish_turn h (Err (fault.NotDone p o)) = Undrained p o (failures_of h p o)
finish_turn h (Err fault) = refused_turn fault

-- the run ends with something that could not be saved
abbrev pub EndsUnsaved : Turn → Type 0
EndsUnsaved (Client failed) = Unit {0}
EndsUnsaved _ = ⊥

-- ---- an action

-- a call that asks nothing of the link
pub record Calls {A : Type 0} (step : Step A) (before after : Stand) (turn : Turn) : Type 0 where
  pub answer : Result A EngineFault
  pub does : DoesAlone step before after answer
  pub turn_is : turn ≡ call_turn answer

-- The part was committed, or not, by what the link did. What is stored stays after every answer but
-- that it was committed or that the client failed, and a refusal before the link is asked changes
-- nothing.
pub record Commits (told : Bool) (given : Given) (p : ℕ) (as_turn : Result Receipt EngineFault → Turn)
    (before after : Stand) (turn : Turn) : Type 0 where
  pub asked : Result (Unit {0}) ClientFault
  pub stored : IsStored told before.store after.store before.faults after.faults p
      (commit_of given before.history p).commit asked
  pub answer : Result Receipt EngineFault
  pub does : Does answer (commit_step given before.history p asked) before.history after.history
  pub stays : told ≡ true → KeepsStore answer before.store after.store
  pub unasked : (refusal : EngineFault) → commit_refusal given before.history p ≡ Some refusal
      → after ≡ before
  pub later : before.faults ≤ after.faults
  pub turn_is : turn ≡ as_turn answer

pub record Finishes (given : Given) (before after : Stand) (turn : Turn) : Type 0 where
  pub answer : Result (Unit {0}) EngineFault
  pub does : DoesAlone (finish_step given before.history) before after answer
  pub turn_is : turn ≡ finish_turn before.history answer

-- what the action does
abbrev pub DoesAction : Bool → Given → ℕ → Action → Stand → Stand → Turn → Type 0
DoesAction told given now MoveClock before after turn =
    Calls (tick_step before.history now) before after turn
DoesAction told given now (Commit p) before after turn =
    Commits told given p commit_turn before after turn
DoesAction told given now (Poll p n) before after turn =
    Calls (poll_step given before.history p n) before after turn
DoesAction told given now BeginDrain before after turn =
    Calls (drain_step before.history) before after turn
DoesAction told given now (Save p) before after turn =
    Commits told given p save_turn before after turn
DoesAction told given now Finish before after turn = Finishes given before after turn
DoesAction told given now Rest before after turn = (after ≡ before) × (turn ≡ Idle)

-- ---- a result

-- a result that is expected is settled
pub record Concludes (given : Given) (job : PlainJob) (outcome : Outcome) (before after : Stand)
    : Type 0 where
  pub history : after.history ≡ settle_event given before.history job outcome ∷ before.history
  pub store : after.store ≡ before.store
  pub faults : after.faults ≡ before.faults

-- what comes after the clock was to be moved: the result is settled, or nothing, where that was
-- refused
abbrev pub AfterClock : Given → PlainJob → Outcome → Stand → Stand → Turn
    → Result Bool EngineFault → Type 0
AfterClock given job outcome between after turn (Ok moved) =
    Concludes given job outcome between after × (turn ≡ Went)
AfterClock given job outcome between after turn (Err fault) =
    (after ≡ between) × (turn ≡ refused_turn fault)

-- before a failure the clock is moved, where it is not at this time yet
pub record Fails (given : Given) (now : ℕ) (job : PlainJob) (code : ℕ) (before after : Stand)
    (turn : Turn) : Type 0 where
  pub between : Stand
  pub answer : Result Bool EngineFault
  pub clock : DoesAlone (tick_step before.history now) before between answer
  pub rest : AfterClock given job (Bad code) between after turn answer

-- a result that was found: one that is not expected is dropped
abbrev pub SettlesFound : Given → ℕ → Bool → PlainJob → Outcome → Stand → Stand → Turn → Type 0
SettlesFound given now false job outcome before after turn = (after ≡ before) × (turn ≡ Went)
SettlesFound given now true job (Good answer) before after turn =
    Concludes given job (Good answer) before after × (turn ≡ Went)
SettlesFound given now true job (Bad code) before after turn =
    Fails given now job code before after turn

-- the outcome that the run's function gives for the job
abbrev pub outcome_for : Given → PlainJob → Outcome
outcome_for given job = given.outcome job.part job.entry job.attempt

-- The same by whether the engine expects it. What it expects is an outcome of its function.
pub record Settles {L T : Type 0} {function : Ghosts T} (outcome_of : T → Outcomes)
    (same : T → T → Bool) (now : ℕ) (engine : EngineView L T) (done : Finished T function)
    (before after : Stand) (turn : Turn) : Type 0 where
  pub expected : Bool
  pub expects : IsTrue expected ↔ Expects outcome_of same engine done
  pub due : expected ≡ true
      → done.outcome ≡ outcome_for (given_of outcome_of engine) (finished_job done)
  pub settles : SettlesFound (given_of outcome_of engine) now expected (finished_job done)
      done.outcome before after turn

-- a result was found, which is the next of one sender
pub record Receives {L T : Type 0} {function : Ghosts T} (outcome_of : T → Outcomes)
    (same : T → T → Bool) (now : ℕ) (engine : EngineView L T)
    (old new : Receiving (Finished T function)) (before after : Stand) (turn : Turn) : Type 0 where
  pub done : Finished T function
  pub taken : TakenNext old new done
  pub settles : Settles outcome_of same now engine done before after turn
