-- The play over files and a link that tell what they hold, where nothing fails: its inputs alone
-- decide it.
use Rattle.std.specs.Prelude.{ℕ, ◌≡◌, ◌<◌, ◌+◌, ◌&&◌, Bool, true, false, List, [], ◌∷◌, map, Option, Some, None, Result, Ok, Err, IfOk, if◌then◌else◌, is_none, nat_lt, length, pos}
use Rattle.std.specs.List.{AllByRecursion}
use Rattle.std.specs.Ordering.{int_eq}
use Rattle.pc_model.specs.declared.limits.TheConstants.{MAX_FILE_BYTES}
use Rattle.pc_model.specs.declared.commit.Commit.{Commit as StoredCommit}
use Rattle.pc_model.specs.declared.event.Event.{Event}
use Rattle.pc_model.specs.declared.outcome.Start.{Start}
use Rattle.pc_model.specs.declared.setup.Setup.{Setup}
use Rattle.pc_model.specs.Record.{Record}
use Rattle.pc_model.specs.declared.api.TheConstants.{NO_ERROR, UNKNOWN_TOPIC_OR_PARTITION}
use Rattle.pc_model.specs.Broker.{Broker, has_part, membership_of}
use Rattle.pc_model.specs.Given.{Given, no_commit}
use Rattle.pc_model.specs.Known.{commit_of}
use Rattle.pc_world.specs.World.{HasRisen}
use Rattle.pc_offset_client.specs.declared.fault.ClientFault.TheVariants.{LinkFailed, Refused}
use Rattle.pc_offset_client.specs.Client.{GROUP, TOPIC, commit_code, kept_for, with_commit}
use Rattle.pc_engine.specs.declared.fault.EngineFault.{EngineFault}
use Rattle.pc_engine.specs.Effect.{assign_refusal, commit_refusal, revoke_refusal}
use Rattle.pc_script.specs.declared.play.PlayAct.{PlayAct}
use Rattle.pc_script.specs.declared.play.PlayAct.TheVariants.{Assign, Commit, Revoke}
use Rattle.pc_script.specs.declared.play.PlayLine.{PlayLine}
use Rattle.pc_inputs.specs.declared.status.Status.{Status}
use Rattle.pc_inputs.specs.Command.{Command, files_of}
use Rattle.pc_inputs.specs.Command.Command.{Bulk as BulkOf, Play as PlayOf, Run as RunOf}
use Rattle.pc_inputs.specs.Reading.{ReadAnswer, Reads}
use Rattle.pc_inputs.specs.Reading.ReadAnswer.{Bytes, TooLong}
use Rattle.pc_inputs.specs.Plan.{Planned, logs_read, plan_to_play}
use Rattle.parcon.specs.Starts.{Sent, commit_at}
use Rattle.pc_play.specs.Play.{Asked, Entry, Play, after_line, start}
use Rattle.parcon.specs.Ending.{lines_in, output_of, wanted_status}
use Rattle.parcon.specs.Written.{with_bytes}
use Rattle.parcon.specs.Promise.{FilesSeen, Outside, given_of, lines_after, starts_in}

-- ---- the files

-- what a read of a file with these contents answers, and of one that does not tell them no bytes
abbrev pub told_answer : Option (List ℕ) → ReadAnswer
told_answer None = Bytes []
told_answer (Some contents) =
    if nat_lt MAX_FILE_BYTES (length contents) then TooLong else Bytes contents

-- what the reads of the files answer that the words name
abbrev pub told_config : Option (List ℕ) → (List ℕ → Option (List ℕ)) → ReadAnswer
told_config None contents = Bytes []
told_config (Some name) contents = told_answer (contents name)

abbrev pub told_reads : List (List ℕ) → (List ℕ → Option (List ℕ)) → Reads
told_reads words contents = record {
  config = told_config (files_of words).config contents;
  logs = map (λ name. record { name = name; answer = told_answer (contents name) })
      (files_of words).logs;
  script = told_answer (contents (files_of words).script);
}

-- a file tells what it holds
abbrev pub IsTold : Option (List ℕ) → Type 0
IsTold told = is_none told ≡ false

-- so does that of a configuration, if one is named
abbrev pub IsConfigTold : Option (List ℕ) → (List ℕ → Option (List ℕ)) → Type 0
IsConfigTold None contents = Unit {0}
IsConfigTold (Some name) contents = IsTold (contents name)

-- the files of a play tell what they hold
abbrev pub AreTold : Option Command → (List ℕ → Option (List ℕ)) → Type 0
AreTold None contents = Unit {0}
AreTold (Some (PlayOf files)) contents = IsConfigTold files.config contents
    × AllByRecursion (λ name. IsTold (contents name)) files.logs × IsTold (contents files.script)
AreTold (Some (RunOf files summary)) contents = Unit {0}
AreTold (Some (BulkOf seed records workers)) contents = Unit {0}

-- ---- the link

-- the broker's answer to a fetch for the part
abbrev pub fetched_from : Broker → ℕ → Asked
fetched_from b p = if has_part b TOPIC (pos p) then Ok (kept_for b p)
    else Err (Refused UNKNOWN_TOPIC_OR_PARTITION)

-- whether the broker accepts a commit for the part
abbrev pub is_accepted : Broker → ℕ → StoredCommit → Bool
is_accepted b p c = int_eq (commit_code b p c) NO_ERROR

-- its answer to that commit, and what it stores then
abbrev pub stored_by : Broker → ℕ → StoredCommit → Asked
stored_by b p c = if is_accepted b p c then Ok no_commit else Err (Refused (commit_code b p c))

abbrev pub store_with : Broker → ℕ → StoredCommit → Broker
store_with b p c = if is_accepted b p c then with_commit b p c else b

-- what the broker stores after a call, unless that is refused
abbrev pub store_unless : Option EngineFault → Broker → Broker → Broker
store_unless (Some fault) before after = before
store_unless None before after = after

-- the broker's answer to the call of a line: where nothing is asked it counts for nothing
abbrev pub answer_told : Given → List Event → PlayAct → Broker → Asked
answer_told given h (Assign p) b = fetched_from b p
answer_told given h (Commit p) b = stored_by b p (commit_of given h p).commit
answer_told given h (Revoke p) b = stored_by b p (commit_of given h p).commit
answer_told given h act b = Ok no_commit

-- what it stores after that line
abbrev pub store_told : Given → List Event → PlayAct → Broker → Broker
store_told given h (Commit p) b =
    store_unless (commit_refusal given h p) b (store_with b p (commit_of given h p).commit)
store_told given h (Revoke p) b =
    store_unless (revoke_refusal given h p) b (store_with b p (commit_of given h p).commit)
store_told given h act b = b

-- The broker has the topic of the client, with this part, and the client's group has no generation:
-- it refuses nothing that a play asks for the part.
pub record Serves (b : Broker) (p : ℕ) : Type 0 where
  pub topic : b.topic ≡ TOPIC
  pub part : p < b.parts
  pub members : membership_of b GROUP ≡ None

-- ---- the starts

-- what the client is answered to the starts, and what the broker stores then
pub record ToldStarts : Type 0 where
  pub answer : Sent
  pub store : Broker

unfoldable pub told_starts : List Start → Broker → ToldStarts
told_starts [] b = record { answer = Ok tt; store = b }
told_starts (s ∷ starts) b = if is_accepted b s.part (commit_at s)
    then told_starts starts (with_commit b s.part (commit_at s)) else record {
      answer = Err (Refused (commit_code b s.part (commit_at s)));
      store = b;
    }

-- ---- the play

-- where a play stands, and what the broker stores
pub record ToldPlay : Type 0 where
  pub play : Play
  pub store : Broker

-- where these lines lead
unfoldable pub told_play : Given → Play → Broker → List PlayLine → ToldPlay
told_play given s b [] = record { play = s; store = b }
told_play given s b (line ∷ lines) =
    told_play given (after_line given s line (answer_told given s.history line.act b))
    (store_told given s.history line.act b) lines

-- ---- a whole call

-- no count of faults rose in a call
pub record IsFaultless (files files' : FilesSeen) (before after : Outside) : Type 0 where
  pub reads : (name : List ℕ) → HasRisen (files.faults name) (files'.faults name) → ⊥
  pub calls : HasRisen before.link_faults after.link_faults → ⊥
  pub writes : HasRisen before.write_faults after.write_faults → ⊥

-- the plan of a call, and its logs
abbrev pub told_plan : List (List ℕ) → FilesSeen → Result Planned Status
told_plan words files = plan_to_play words (told_reads words files.contents)

abbrev pub told_logs : List (List ℕ) → FilesSeen → List (Option (List Record))
told_logs words files = logs_read (told_reads words files.contents).logs

-- the lines that are played once the starts of a plan were sent, and where they lead
abbrev pub lines_told : Result Planned Status → Broker → Result (List PlayLine) Status
lines_told plan store = lines_after (told_starts (starts_in plan) store).answer plan

abbrev pub end_told : Setup → List (Option (List Record)) → Result Planned Status → Broker
    → ToldPlay
end_told setup logs plan store =
    let begin = told_starts (starts_in plan) store in
    told_play (given_of setup logs true begin.store) start begin.store
    (lines_in (lines_told plan store))

-- a plan over these logs was carried out as they and the store alone decide
pub record IsToldPlay (logs : List (Option (List Record))) (plan : Result Planned Status)
    (before after : Outside) (status : Status) (history : List Event) : Type 0 where
  -- the setup with the plan's settings
  pub setup : Setup
  pub setup_is : IfOk plan (λ p. setup.settings ≡ p.settings)
  pub status_is : status ≡ wanted_status (lines_told plan before.store)
  pub history_is : history ≡ (end_told setup logs plan before.store).play.history
  pub store_is : after.store ≡ (end_told setup logs plan before.store).store
  pub written_is : after.written ≡ with_bytes before.written
      (output_of (wanted_status (lines_told plan before.store))
      (end_told setup logs plan before.store).play)

-- a call ended as its inputs alone decide
abbrev pub IsToldCall : List (List ℕ) → FilesSeen → Outside → Outside → Status → List Event
    → Type 0
IsToldCall words files before after status history =
    IsToldPlay (told_logs words files) (told_plan words files) before after status history

-- two calls ended in the same way
pub record EndsAlike (after after' : Outside) (status status' : Status)
    (history history' : List Event) : Type 0 where
  pub status_is : status ≡ status'
  pub history_is : history ≡ history'
  pub store_is : after.store ≡ after'.store
  pub written_is : after.written ≡ after'.written

-- ---- how often the link failed

-- whether a line's call asks the link
abbrev pub asks_link : Given → List Event → PlayAct → Bool
asks_link given h (Assign p) = is_none (assign_refusal given h p)
asks_link given h (Commit p) = is_none (commit_refusal given h p)
asks_link given h (Revoke p) = is_none (revoke_refusal given h p)
asks_link given h act = false

-- whether the client answered that the link failed
abbrev pub has_failed : Asked → Bool
has_failed (Err LinkFailed) = true
has_failed asked = false

-- how many of these lines' calls were answered so
unfoldable pub failure_count : Given → Play → List PlayLine → List Entry → ℕ
failure_count given s [] entries = 0
failure_count given s (line ∷ lines) [] = 0
failure_count given s (line ∷ lines) (e ∷ entries) =
    (if asks_link given s.history line.act && has_failed e.asked then 1 else 0)
    + failure_count given (after_line given s line e.asked) lines entries
