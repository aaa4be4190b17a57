-- The promise of a run: how it ends, whatever its words, files, clock, link and sink are, and
-- whatever the order is in which its workers take their turns.
use Rattle.std.specs.Prelude.{ℕ, ◌≡◌, ◌<◌, ◌⊎◌, Bool, true, false, List, [], ◌∷◌, Option, Result, Ok, Err, IfOk, bytes_eq, codes, nat_lt}
use Rattle.std.specs.List.{list_all}
use Rattle.pc_model.specs.declared.commit.Commit.{Commit}
use Rattle.pc_model.specs.declared.event.Event.{Event}
use Rattle.pc_model.specs.declared.outcome.Start.{Start}
use Rattle.pc_model.specs.declared.setup.Setup.{Setup}
use Rattle.pc_model.specs.Epochs.{is_held}
use Rattle.pc_model.specs.Given.{Given, has_log, records_of}
use Rattle.pc_model.specs.Record.{Record}
use Rattle.pc_model.specs.Sound.{IsOrderly, IsSound}
use Rattle.pc_model.specs.Stored.{may_store, passes}
use Rattle.pc_laws.specs.Lists.{In}
use Rattle.pc_offset_client.specs.Client.{kept_for}
use Rattle.pc_engine.specs.Effect.{StoresOnly}
use Rattle.pc_run_laws.specs.Run.{IsRun}
use Rattle.pc_drain.specs.Causes.{HaveCauses, is_refused}
use Rattle.pc_drain.specs.Counts.{dispatch_workers}
use Rattle.pc_state_lock.specs.Heading.{Heading}
use Rattle.pc_pool.specs.declared.ending.Ending.{Ending}
use Rattle.pc_pool.specs.Ending.{HasEnding}
use Rattle.pc_inputs.specs.declared.status.Status.{Status}
use Rattle.pc_inputs.specs.declared.status.Status.TheVariants.{LinkFault, Whole}
use Rattle.pc_inputs.specs.Status.{fault_line}
use Rattle.pc_inputs.specs.Command.{run_files_of}
use Rattle.pc_inputs.specs.Reading.{AreAnswers, Reads}
use Rattle.pc_inputs.specs.Plan.{PlannedRun, logs_read, plan_to_run}
use Rattle.pc_play.specs.Play.{Moment}
use Rattle.parcon.specs.Starts.{Begins, Sent}
use Rattle.parcon.specs.Written.{IsWritten}
use Rattle.parcon.specs.Promise.{FilesSeen, GivesUp, Outside, given_of, link_at, with_link}
use Rattle.parcon.specs.RunEnding.{ending_status, run_text}

-- what a run does not change: what it was given, the broker at its start, its steps and its workers
abbrev pub heading_of : Given → PlannedRun → Outside → Heading
heading_of given plan before = record {
  given = given;
  store = before.store;
  steps = plan.steps;
  workers = plan.workers;
  faults = before.link_faults;
}

-- What a run of this plan keeps, and how it ends, from the one moment to the other.
pub record Runs (setup : Setup) (logs : List (Option (List Record))) (given : Given)
    (plan : PlannedRun) (before after : Outside) (status : Status) (history : List Event)
    : Type 0 where
  -- the history is legal, its parts move by the steps, and it keeps to the pace
  pub is_run : IsRun given plan.steps history
  -- nothing is passed over that was not done, and one ordering key runs singly and in order
  pub sound : given.is_told ≡ true → IsSound given history
  pub orderly : IsOrderly given history
  -- each worker is one of those that were asked for
  pub workers : list_all (λ w. nat_lt w plan.workers) (dispatch_workers history) ≡ true
  -- over a link that tells its store a commit failed only where the broker refuses it or the link's
  -- count of faults rose
  pub causes : given.is_told ≡ true
      → HaveCauses (is_refused before.store) before.link_faults history after.link_faults
  -- the broker of a link that tells its store has, for the group of the client and each part with a
  -- log, a commit that may be stored, and stores all else as before
  pub stored : given.is_told ≡ true → (p : ℕ) → has_log given p ≡ true
      → In (kept_for after.store p) (may_store given history p)
  pub others : given.is_told ≡ true → StoresOnly (has_log given) before.store after.store
  -- why it ended, after how many steps, and what that means
  pub ended : Ending
  pub used : ℕ
  pub cause : HasEnding (heading_of given plan before) given.is_told history after.store used
      after.link_faults ended
  -- the output is that of the history with the status of this ending
  pub output : IsWritten before.written after.written before.write_faults after.write_faults
      (run_text plan.summary setup logs history ended) (ending_status ended) status
  -- where the status is that all is whole, the end of each held part is committed: whatever commit
  -- may be stored for it passes over every record of the part's log
  pub committed : status ≡ Whole → (p : ℕ) → is_held history p ≡ true → (c : Commit)
      → In c (may_store given history p) → (r : Record) → In r (records_of given p)
      → passes c r.offset ≡ true

-- a run that did not begin, as this status says
pub record IsUnrun (s : Status) (before after : Outside) (status : Status) (history : List Event)
    : Type 0 where
  pub none : history ≡ []
  pub link : link_at after ≡ link_at before
  pub output : IsWritten before.written after.written before.write_faults after.write_faults
      (fault_line s) s status

-- the starts that are sent before a run: none where something keeps it from beginning
abbrev pub starts_to_run : Result PlannedRun Status → List Start
starts_to_run (Ok plan) = plan.settings.starts
starts_to_run (Err s) = []

-- what is run once the starts were sent, or the status that ends the run before: that of the plan, or
-- of the start that was not stored
abbrev pub run_after : Sent → Result PlannedRun Status → Result PlannedRun Status
run_after answer (Err s) = Err s
run_after (Ok done) (Ok plan) = Ok plan
run_after (Err fault) (Ok plan) = Err (LinkFault fault)

-- How the plan of a run over these logs ends, over this setup and what it gives: it is run, or it did
-- not begin.
abbrev pub RunEnds : Setup → List (Option (List Record)) → Given → Result PlannedRun Status → Outside
    → Outside → Status → List Event → Type 0
RunEnds setup logs given (Ok plan) before after status history =
    Runs setup logs given plan before after status history
RunEnds setup logs given (Err s) before after status history = IsUnrun s before after status history

-- How the plan of a run over these logs is carried out: its starts are sent over the link, and if all
-- were stored it is run. The run is given the setup with the plan's settings, and for its start what
-- the link's broker stores once the starts were sent.
pub record CarriesRun (logs : List (Option (List Record))) (plan : Result PlannedRun Status)
    (before after : Outside) (status : Status) (history : List Event) : Type 0 where
  pub setup : Setup
  pub setup_is : IfOk plan (λ p. setup.settings ≡ p.settings)
  -- what came of the starts, and the link after them
  pub answer : Sent
  pub between : Moment
  pub begins : Begins before.is_told (starts_to_run plan) (link_at before) between answer status
  pub ends : RunEnds setup logs (given_of setup logs before.is_told between.store)
      (run_after answer plan) (with_link before between) after status history

abbrev pub IsRunOut : List (Option (List Record)) → Result PlannedRun Status → Outside → Outside
    → Status → List Event → Type 0
IsRunOut logs plan before after status history =
    GivesUp before after status history ⊎ CarriesRun logs plan before after status history

-- how a call of the program ends that asks for a run: what the reads of its files answered decides
-- which plan over which logs is carried out
pub record IsRunCall (words : List (List ℕ)) (files files' : FilesSeen) (before after : Outside)
    (status : Status) (history : List Event) : Type 0 where
  pub reads : Reads
  pub answers : AreAnswers (run_files_of words) files.contents files.faults files'.faults reads
  pub carried_out : IsRunOut (logs_read reads.logs) (plan_to_run words reads) before after status
      history

-- whether the first of the words asks for a run
abbrev pub names_run : List (List ℕ) → Bool
names_run [] = false
names_run (name ∷ words) = bytes_eq name (codes "run")
