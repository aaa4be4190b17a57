-- What a pool keeps of its run between the turns of its workers.
use Rattle.std.specs.Prelude.{ℕ, suc, ◌≡◌, ◌<◌, ◌≤◌, ◌+◌, ◌-◌, Bool, true, false, nat_lt, List, [], length, Option, None, Some, slice_get}
use Rattle.std.specs.List.{list_all}
use Rattle.std.specs.Option.{option_map_or}
use Rattle.pc_model.specs.declared.event.Event.{Event}
use Rattle.pc_model.specs.declared.step.Step.{Step}
use Rattle.pc_model.specs.Broker.{Broker}
use Rattle.pc_model.specs.Given.{Given, has_log, parts_of}
use Rattle.pc_model.specs.Jobs.{has_ended}
use Rattle.pc_model.specs.Pace.{is_tended}
use Rattle.pc_model.specs.Steps.{is_step_due, place_of}
use Rattle.pc_script.specs.Steps.{AreAllowed}
use Rattle.pc_mailbox.specs.Ends.{Name, Receiving, Sending}
use Rattle.pc_task.specs.Jobs.{Outcomes}
use Rattle.pc_engine.specs.Effect.{StoresOnly}
use Rattle.pc_engine.specs.declared.fault.EngineFault.{EngineFault}
use Rattle.pc_engine.specs.declared.fault.EngineFault.TheVariants as fault
use Rattle.pc_engine.specs.Engine.{EngineView, given_of}
use Rattle.pc_run_laws.specs.Run.{AnyMayCome, IsRun}
use Rattle.pc_drain.specs.Causes.{HaveCauses, is_refused}
use Rattle.pc_drain.specs.Counts.{dispatch_workers, settled_count, taken_count}
use Rattle.pc_state_lock.specs.declared.lock.StateLock.{StateLock}
use Rattle.pc_state_lock.specs.Heading.{Heading}
use Rattle.pc_state_lock.specs.History.{Continues}
use Rattle.pc_pool.specs.declared.ending.Ending.{Ending}
use Rattle.pc_drain.specs.declared.turn.Turn.{Turn}
use Rattle.pc_drain.specs.declared.turn.Turn.TheVariants as turn
use Rattle.pc_pool.specs.declared.ending.Ending.TheVariants.{Client, Done, JournalFull, NoMemory, Undrained}
use Rattle.pc_pool.specs.Ending.{HasEnding}

-- a run: its engine, the link at its start, its steps, its workers, how many steps are used up, and
-- why it ended, if it did
pub record RunView (L T : Type 0) : Type 0 where
  pub engine : EngineView L T
  pub entry : L
  pub steps : List Step
  pub workers : ℕ
  pub used : ℕ
  pub ended : Option Ending

-- the heading of a run: what its engine was given, what its link held at the start, its steps and its
-- workers
abbrev pub heading_by : {L T : Type 0} → (T → Outcomes) → (L → Broker) → (L → ℕ) → EngineView L T → L
    → List Step → ℕ → Heading
heading_by outcome_of store faults engine entry steps workers = record {
  given = given_of outcome_of engine;
  store = store entry;
  steps = steps;
  workers = workers;
  faults = faults entry;
}

abbrev pub heading_of : {L T : Type 0} → (T → Outcomes) → (L → Broker) → (L → ℕ) → RunView L T → Heading
heading_of outcome_of store faults r = heading_by outcome_of store faults r.engine r.entry r.steps
    r.workers

-- the run goes on: so many blocks were begun, none is left unfinished, and any event may come
pub record GoesOn (given : Given) (h : List Event) (used : ℕ) : Type 0 where
  pub begun : (place_of given h).begun ≡ used
  pub whole : (place_of given h).left ≡ []
  pub any : AnyMayCome given h
  pub runs : has_ended h ≡ false

-- What is kept of a run whose history, store and count of faults are these: it is a run by its steps,
-- which were read for its logs, and by its workers; its failed commits have their causes, the store is
-- as at the start but for the commits of its parts, and it goes on or has ended with a cause.
pub record IsConsuming (run : Heading) (told : Bool) (h : List Event) (store : Broker) (faults : ℕ)
    (used : ℕ) (ended : Option Ending) : Type 0 where
  pub told_is : told ≡ run.given.is_told
  pub allowed : AreAllowed (length run.given.logs) [] run.steps
  pub logged : (p : ℕ) → p < length run.given.logs → has_log run.given p ≡ true
  pub few : used ≤ length run.steps
  pub is_run : IsRun run.given run.steps h
  pub workers : list_all (λ w. nat_lt w run.workers) (dispatch_workers h) ≡ true
  pub most : run.workers ≤ 256
  pub count : run.faults ≤ faults
  pub causes : told ≡ true → HaveCauses (is_refused run.store) run.faults h faults
  pub stores : told ≡ true → StoresOnly (has_log run.given) run.store store
  pub goes_on : ended ≡ None → GoesOn run.given h used
  pub ending : (e : Ending) → ended ≡ Some e → HasEnding run told h store used faults e

-- the results that were settled came from the inbox, but for those that the mailbox handed back
pub record CountsResults {T : Type 0} (mail : Name) (inbox : Receiving T) (returned : ℕ)
    (h : List Event) : Type 0 where
  pub own : inbox.mailbox ≡ mail
  pub counted : settled_count h ≤ taken_count inbox.taken + returned
  pub few : returned ≤ settled_count h

-- whether the step at this place is due
abbrev pub is_due_at : Heading → List Event → ℕ → Bool
is_due_at run h used = option_map_or (λ step. is_step_due run.given step h) (slice_get run.steps used)
    false

-- the run goes on, no step is due, and nothing is to be done before a record is dispatched
pub record IsIdle (run : Heading) (h : List Event) (used : ℕ) (ended : Option Ending) : Type 0 where
  pub goes_on : ended ≡ None
  pub undue : is_due_at run h used ≡ false
  pub tended : list_all (is_tended run.given h) (parts_of run.given) ≡ true

-- how many steps are left, and one more, of a run that goes on
abbrev pub steps_left : ℕ → ℕ → Option Ending → ℕ
steps_left steps used None = suc (steps - used)
steps_left steps used (Some e) = 0

-- a call leaves the heading, and the history goes on
pub record GoesFrom {L T : Type 0} (outcome_of : T → Outcomes) (store : L → Broker) (faults : L → ℕ)
    (old new : RunView L T) : Type 0 where
  pub heading : heading_of outcome_of store faults new ≡ heading_of outcome_of store faults old
  pub later : Continues new.engine.journal.events old.engine.journal.events

-- how many workers the run of a lock has
abbrev pub workers_of : {L T : Type 0} → StateLock (RunView L T) → ℕ
workers_of lock = lock.table.shared.key.value.workers

-- what refuses a take of a run that goes on
abbrev pub IsTakeRefusal : EngineFault → Type 0
IsTakeRefusal fault.JournalFull = Unit {0}
IsTakeRefusal fault.NoMemory = Unit {0}
IsTakeRefusal _ = ⊥

-- and the ending that it is
abbrev pub take_ending : EngineFault → Ending
take_ending fault.JournalFull = JournalFull
take_ending _ = NoMemory

-- a turn that ends the run
abbrev pub Ends : Turn → Type 0
Ends turn.Went = ⊥
Ends turn.Idle = ⊥
Ends _ = Unit {0}

-- and its ending
abbrev pub ending_of : Turn → Ending
ending_of turn.Done = Done
ending_of (turn.Undrained p o failures) = Undrained p o failures
ending_of (turn.Client failed) = Client failed
ending_of turn.JournalFull = JournalFull
ending_of _ = NoMemory

-- the ending of a run after this turn, if it ended
abbrev pub ended_by : Turn → Option Ending
ended_by turn.Went = None
ended_by turn.Idle = None
ended_by other = Some (ending_of other)

-- a sender of the mailbox that has put nothing
pub record IsFresh {T : Type 0} (mail : Name) (sender : Sending T) : Type 0 where
  pub own : sender.mailbox ≡ mail
  pub none : sender.put ≡ []
