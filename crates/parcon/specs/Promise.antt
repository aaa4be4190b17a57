-- The promise of the program: how a play ends, whatever its words, files, link and sink are.
use Rattle.std.specs.Prelude.{ℕ, ◌≡◌, ◌⊎◌, Bool, true, List, [], take, Option, Result, Ok, Err, IfOk}
use Rattle.pc_model.specs.Outcomes.{outcome_of}
use Rattle.pc_model.specs.declared.event.Event.{Event}
use Rattle.pc_model.specs.declared.outcome.Start.{Start}
use Rattle.pc_model.specs.declared.setup.Setup.{Setup}
use Rattle.pc_model.specs.Given.{Given, has_log}
use Rattle.pc_model.specs.Lawful.{IsLegal}
use Rattle.pc_model.specs.Record.{Record}
use Rattle.pc_model.specs.Sound.{IsOrderly, IsSound}
use Rattle.pc_model.specs.Stored.{may_store}
use Rattle.pc_laws.specs.Lists.{In}
use Rattle.pc_model.specs.Broker.{Broker}
use Rattle.pc_offset_client.specs.Client.{kept_for}
use Rattle.pc_script.specs.declared.play.PlayLine.{PlayLine}
use Rattle.pc_engine.specs.Effect.{StoresOnly}
use Rattle.pc_engine.specs.Engine.{given_by}
use Rattle.pc_inputs.specs.declared.status.Status.{Status}
use Rattle.pc_inputs.specs.declared.status.Status.TheVariants.{LinkFault, NoMemory}
use Rattle.pc_inputs.specs.Command.{files_of}
use Rattle.pc_inputs.specs.Reading.{AreAnswers, Reads}
use Rattle.pc_inputs.specs.Plan.{Planned, logs_read, plan_to_play}
use Rattle.parcon.specs.Starts.{Begins, Sent}
use Rattle.pc_play.specs.Play.{IsAborted, Moment, Play, PlaysTo, start}
use Rattle.parcon.specs.Ending.{lines_in, output_of, wanted_status}
use Rattle.parcon.specs.Written.{IsWritten}

-- what a play over these logs is given: the setup, and for its start what the link's broker stores
abbrev pub given_of : Setup → List (Option (List Record)) → Bool → Broker → Given
given_of setup logs told store = given_by setup logs [] told outcome_of (kept_for store)

-- the files at a moment: what they hold, as far as it is told, and how often the reads of each name
-- have failed
pub record FilesSeen : Type 0 where
  pub contents : List ℕ → Option (List ℕ)
  pub faults : List ℕ → ℕ

-- the link and the sink at a moment: what the link's broker stores and what stands in the sink, as
-- far as it is told, and how often each of them has failed
pub record Outside : Type 0 where
  pub is_told : Bool
  pub store : Broker
  pub link_faults : ℕ
  pub written : Option (List ℕ)
  pub write_faults : ℕ

-- the link alone
abbrev pub link_at : Outside → Moment
link_at outside = record { store = outside.store; faults = outside.link_faults }

-- the same sink, and the link at another moment
abbrev pub with_link : Outside → Moment → Outside
with_link outside link =
    record outside { store = link.store; link_faults = link.faults }

-- How a play of these lines ends, from the one moment to the other. All of its lines were played,
-- unless memory ran out; then the first of them were, and the journal and the first bytes of the
-- output are those of these.
pub record Ends (given : Given) (lines : Result (List PlayLine) Status) (before after : Outside)
    (status : Status) (history : List Event) : Type 0 where
  -- how many of the lines were played, where this led, and the link after the last of them
  pub count : ℕ
  pub play : Play
  pub last : Moment
  pub plays : PlaysTo before.is_told given start (link_at before) (take count (lines_in lines)) play
      last
  pub history_is : history ≡ play.history
  pub all : (status ≡ NoMemory → ⊥) → take count (lines_in lines) ≡ lines_in lines
  pub end : (status ≡ NoMemory → ⊥) → link_at after ≡ last
  pub stopped : IsAborted before.is_told last (link_at after)
  pub output : IsWritten before.written after.written before.write_faults after.write_faults
      (output_of (wanted_status lines) play) (wanted_status lines) status

-- what a play keeps, and how it ends
pub record Plays (given : Given) (lines : Result (List PlayLine) Status) (before after : Outside)
    (status : Status) (history : List Event) : Type 0 where
  -- nothing is passed over that was not done, and one ordering key runs singly and in order
  pub legal : IsLegal given history
  pub sound : given.is_told ≡ true → IsSound given history
  pub orderly : IsOrderly given history
  -- the broker of a link that tells its store has, for the group of the client and each part with a
  -- log, a commit that may be stored, and stores all else as before
  pub stored : given.is_told ≡ true → (p : ℕ) → has_log given p ≡ true
      → In (kept_for after.store p) (may_store given history p)
  pub others : given.is_told ≡ true → StoresOnly (has_log given) before.store after.store
  -- the status, the history and the output are those of the play
  pub ends : Ends given lines before after status history

-- the starts that are sent before a play: none where something keeps it from beginning
abbrev pub starts_in : Result Planned Status → List Start
starts_in (Ok plan) = plan.settings.starts
starts_in (Err s) = []

-- the lines that are played once the starts were sent, or the status that ends the play before: that
-- of the plan, or of the start that was not stored
abbrev pub lines_after : Sent → Result Planned Status → Result (List PlayLine) Status
lines_after answer (Err s) = Err s
lines_after (Ok done) (Ok plan) = Ok plan.lines
lines_after (Err fault) (Ok plan) = Err (LinkFault fault)

-- How a plan over these logs is carried out: its starts are sent over the link, and if all were
-- stored its lines are played. The play is given the setup with the plan's settings, and for its
-- start what the link's broker stores once the starts were sent.
pub record CarriesOut (logs : List (Option (List Record))) (plan : Result Planned Status)
    (before after : Outside) (status : Status) (history : List Event) : Type 0 where
  pub setup : Setup
  pub setup_is : IfOk plan (λ p. setup.settings ≡ p.settings)
  -- what came of the starts, and the link after them
  pub answer : Sent
  pub between : Moment
  pub begins : Begins before.is_told (starts_in plan) (link_at before) between answer status
  pub plays : Plays (given_of setup logs before.is_told between.store) (lines_after answer plan)
      (with_link before between) after status history

-- memory ran out before anything was sent, played or written
pub record GivesUp (before after : Outside) (status : Status) (history : List Event) : Type 0 where
  pub memory : status ≡ NoMemory
  pub nothing : history ≡ []
  pub link : link_at after ≡ link_at before
  pub written : after.written ≡ before.written

abbrev pub IsCarriedOut : List (Option (List Record)) → Result Planned Status → Outside → Outside
    → Status → List Event → Type 0
IsCarriedOut logs plan before after status history =
    GivesUp before after status history ⊎ CarriesOut logs plan before after status history

-- how a call of the program with these words ends: what the reads of its files answered decides
-- which plan over which logs is carried out
pub record IsCall (words : List (List ℕ)) (files files' : FilesSeen) (before after : Outside)
    (status : Status) (history : List Event) : Type 0 where
  pub reads : Reads
  pub answers : AreAnswers (files_of words) files.contents files.faults files'.faults reads
  pub carried_out : IsCarriedOut (logs_read reads.logs) (plan_to_play words reads) before after
      status history
