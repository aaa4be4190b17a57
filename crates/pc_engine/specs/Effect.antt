-- The exact effect of an engine's calls: the first refusal, or else the lawful event with its
-- values.
use Rattle.std.specs.Prelude.{ℕ, ◌+◌, ◌-◌, ◌≡◌, Bool, true, false, not, ◌&&◌, ◌==◌, nat_le, nat_lt, if◌then◌else◌, bytes_eq, List, [], ◌∷◌, ◌++◌, length, Option, Some, None, option_map, unwrap_or, slice_get, Result, Ok, Err}
use Rattle.std.specs.Option.{option_map_or}
use Rattle.pc_model.specs.declared.limits.TheConstants.{MAX_EVENTS}
use Rattle.pc_model.specs.declared.commit.Commit.{Commit}
use Rattle.pc_model.specs.declared.commit.SizedCommit.{SizedCommit}
use Rattle.pc_model.specs.declared.event.Event.{Event}
use Rattle.pc_model.specs.declared.event.Event.TheVariants.{Assign, Poll, Dispatch, Success, Failure, Stale as StaleResult, Commit as Committed, CommitFailed, Revoke, Lost, Crash, Tick}
use Rattle.pc_model.specs.declared.outcome.Outcome.{Outcome}
use Rattle.pc_model.specs.declared.outcome.Outcome.TheVariants.{Good, Bad}
use Rattle.pc_model.specs.Record.{Record}
use Rattle.pc_model.specs.declared.map_fault.MapFault.{MapFault}
use Rattle.pc_model.specs.Given.{Given, has_log}
use Rattle.pc_model.specs.Jobs.{dispatch_count, has_ended, is_draining, open_jobs}
use Rattle.pc_model.specs.Epochs.{epoch_of, is_held}
use Rattle.pc_model.specs.Known.{commit_of, high_of, unpolled_records}
use Rattle.pc_model.specs.Pressure.{is_blocked, is_upto_high}
use Rattle.pc_model.specs.Retry.{failures_of, now_of, ready_after}
use Rattle.pc_model.specs.Next.{next_record}
use Rattle.pc_model.specs.History.{History}
use Rattle.pc_task.specs.declared.job.Job.{Job}
use Rattle.pc_task.specs.declared.task.Task.{Ghosts}
use Rattle.pc_task.specs.Jobs.{PlainJob, plain_job}
use Rattle.pc_model.specs.Broker.{Broker, stored_for}
use Rattle.pc_offset_client.specs.declared.fault.ClientFault.TheVariants as client
use Rattle.pc_offset_client.specs.declared.fault.ClientFault.TheVariants.{LinkFailed}
use Rattle.pc_offset_client.specs.Client.{CommitGives, FetchGives, GROUP}
use Rattle.pc_world.specs.World.{HasRisen}
use Rattle.pc_commit.specs.Resume.{map_refusal}
use Rattle.pc_offset_client.specs.declared.fault.ClientFault.{ClientFault}
use Rattle.pc_engine.specs.Fault.{engine_fault_of}
use Rattle.pc_engine.specs.declared.engine.Committed.{Committed as Receipt}
use Rattle.pc_engine.specs.declared.fault.EngineFault.{EngineFault}
use Rattle.pc_engine.specs.declared.fault.EngineFault.TheVariants.{Closed, UnknownPart, AlreadyHeld, NotHeld, Draining, Pressed, JournalFull, Client, BadMap, NoMemory}
use Rattle.pc_engine.specs.declared.settled.Settled.{Settled}
use Rattle.pc_engine.specs.declared.settled.Settled.TheVariants.{Stale, Succeeded, Failed}
use Rattle.pc_state.specs.Calls.{job_to_do, next_records}

-- what a call answers, and the events that it adds, the newest first
pub record Step (A : Type 0) : Type 0 where
  pub answer : Result A EngineFault
  pub events : List Event

-- a refusal, which adds nothing
abbrev pub refuses : {A : Type 0} → EngineFault → Step A
refuses fault = record { answer = Err fault; events = [] }

-- the call does the step: its answer and its events; when out of memory it does nothing
abbrev pub Does : {A : Type 0} → Result A EngineFault → Step A → List Event → List Event → Type 0
Does (Err NoMemory) step before after = after ≡ before
Does result step before after = (result ≡ step.answer) × (after ≡ step.events ++ before)

-- whether this many more events, with those kept for the jobs that are out, pass the limit
abbrev pub is_full : List Event → ℕ → Bool
is_full h more = nat_lt MAX_EVENTS (length h + length (open_jobs h) + more)

-- a check that refuses with the fault, if there is one
abbrev pub refused_by : Option EngineFault → Result (Unit {0}) EngineFault
refused_by None = Ok tt
refused_by (Some fault) = Err fault

-- ---- assign

-- the first refusal of an assignment before the link is asked
abbrev pub assign_refusal : Given → List Event → ℕ → Option EngineFault
assign_refusal given h p =
    if has_ended h then Some Closed
    else if not (has_log given p) then Some UnknownPart
    else if is_draining h then Some Draining
    else if is_held h p then Some AlreadyHeld
    else if is_full h 1 then Some JournalFull
    else None

-- an assignment with what is stored
abbrev pub assign_with : List Event → ℕ → Commit → Option MapFault → Step (Unit {0})
assign_with h p stored None = record
    { answer = Ok tt; events = Assign p (epoch_of h p + 1) stored.position stored.map ∷ [] }
assign_with h p stored (Some fault) = refuses (BadMap fault)

-- an assignment, by what the link's client answered
abbrev pub assign_after : Given → List Event → ℕ → Result Commit ClientFault → Option EngineFault
    → Step (Unit {0})
assign_after given h p outcome (Some fault) = refuses fault
assign_after given h p (Err failed) None = refuses (engine_fault_of failed)
assign_after given h p (Ok stored) None = assign_with h p stored
    (map_refusal given.setup.settings.bad_map stored)

abbrev pub assign_step : Given → List Event → ℕ → Result Commit ClientFault → Step (Unit {0})
assign_step given h p outcome = assign_after given h p outcome (assign_refusal given h p)

-- ---- commit

-- the first refusal of a commit before the link is asked
abbrev pub commit_refusal : Given → List Event → ℕ → Option EngineFault
commit_refusal given h p =
    if has_ended h then Some Closed
    else if not (has_log given p) then Some UnknownPart
    else if not (is_held h p) then Some NotHeld
    else if is_full h 1 then Some JournalFull
    else None

-- the part's commit, stored or failed; when out of memory nothing is added
abbrev pub commit_with : ℕ → SizedCommit → Result (Unit {0}) ClientFault → Step Receipt
commit_with p c (Err client.NoMemory) = refuses NoMemory
commit_with p c (Err failed) = record {
  answer = Err (Client failed);
  events = CommitFailed p c.commit.position c.commit.map c.size ∷ [];
}
commit_with p c (Ok done) = record {
  answer = Ok (record { position = c.commit.position; size = c.size });
  events = Committed p c.commit.position c.commit.map c.size ∷ [];
}

-- a commit, by what the link's client answered
abbrev pub commit_after : Given → List Event → ℕ → Result (Unit {0}) ClientFault
    → Option EngineFault → Step Receipt
commit_after given h p outcome (Some fault) = refuses fault
commit_after given h p outcome None = commit_with p (commit_of given h p) outcome

abbrev pub commit_step : Given → List Event → ℕ → Result (Unit {0}) ClientFault → Step Receipt
commit_step given h p outcome = commit_after given h p outcome (commit_refusal given h p)

-- ---- poll

-- the offset of the last record, and 0 where there is none
abbrev pub last_offset : List Record → ℕ
last_offset rs = option_map_or (λ r. r.offset) (slice_get rs (length rs - 1)) 0

-- the first refusal of a poll, whatever is left of the part
abbrev pub poll_refusal : Given → List Event → ℕ → Option EngineFault
poll_refusal given h p =
    if has_ended h then Some Closed
    else if not (has_log given p) then Some UnknownPart
    else if not (is_held h p) then Some NotHeld
    else if is_draining h then Some Draining
    else None

-- a poll of these records
abbrev pub polls : ℕ → List Record → Step ℕ
polls p rs = record
    { answer = Ok (length rs); events = Poll p (length rs) (last_offset rs) ∷ [] }

-- a poll, by which records are left
abbrev pub poll_left : Given → List Event → ℕ → ℕ → List Record → Step ℕ
poll_left given h p max [] = record { answer = Ok 0; events = [] }
poll_left given h p max (r ∷ rs) =
    if is_blocked given h p && not (is_upto_high given h p r.offset)
    then refuses (Pressed (unwrap_or (high_of given h p) 0))
    else if is_full h 1 then refuses JournalFull
    else polls p (next_records given h p max)

abbrev pub poll_after : Given → List Event → ℕ → ℕ → Option EngineFault → Step ℕ
poll_after given h p max (Some fault) = refuses fault
poll_after given h p max None = poll_left given h p max (unpolled_records given h p)

abbrev pub poll_step : Given → List Event → ℕ → ℕ → Step ℕ
poll_step given h p max = poll_after given h p max (poll_refusal given h p)

-- ---- take

-- the first refusal of a take
abbrev pub take_refusal : List Event → Option EngineFault
take_refusal h =
    if has_ended h then Some Closed else if is_full h 2 then Some JournalFull else None

-- the dispatch of the next record, if there is one
abbrev pub take_next : Given → List Event → ℕ → Option (ℕ × ℕ) → Step (Option PlainJob)
take_next given h worker None = record { answer = Ok None; events = [] }
take_next given h worker (Some next) = record {
  answer = Ok (Some (job_to_do given h worker next.0 next.1));
  events = Dispatch (dispatch_count h + 1) worker next.0 next.1 (epoch_of h next.0)
      (failures_of h next.0 next.1 + 1) ∷ [];
}

abbrev pub take_after : Given → List Event → ℕ → Option EngineFault → Step (Option PlainJob)
take_after given h worker (Some fault) = refuses fault
take_after given h worker None = take_next given h worker (next_record given h)

abbrev pub take_step : Given → List Event → ℕ → Step (Option PlainJob)
take_step given h worker = take_after given h worker (take_refusal h)

-- ---- lose, crash, revoke

-- the first refusal of a call on a held part that adds this many events
abbrev pub held_refusal : Given → List Event → ℕ → ℕ → Option EngineFault
held_refusal given h p more =
    if has_ended h then Some Closed
    else if not (has_log given p) then Some UnknownPart
    else if not (is_held h p) then Some NotHeld
    else if is_full h more then Some JournalFull
    else None

abbrev pub lose_refusal : Given → List Event → ℕ → Option EngineFault
lose_refusal given h p = held_refusal given h p 1

-- the loss of a part
abbrev pub lose_after : List Event → ℕ → Option EngineFault → Step (Unit {0})
lose_after h p (Some fault) = refuses fault
lose_after h p None = record { answer = Ok tt; events = Lost p (epoch_of h p) ∷ [] }

abbrev pub lose_step : Given → List Event → ℕ → Step (Unit {0})
lose_step given h p = lose_after h p (lose_refusal given h p)

-- the first refusal of a crash
abbrev pub crash_refusal : List Event → Option EngineFault
crash_refusal h =
    if has_ended h then Some Closed else if is_full h 1 then Some JournalFull else None

abbrev pub crash_after : Option EngineFault → Step (Unit {0})
crash_after (Some fault) = refuses fault
crash_after None = record { answer = Ok tt; events = Crash ∷ [] }

abbrev pub crash_step : List Event → Step (Unit {0})
crash_step h = crash_after (crash_refusal h)

-- the first refusal of a tick that adds an event
abbrev pub tick_refusal : List Event → ℕ → Option EngineFault
tick_refusal h now =
    if has_ended h then Some Closed
    else if nat_le now (now_of h) then None
    else if is_full h 1 then Some JournalFull
    else None

-- a tick comes where its number is above that of the last one, and else adds nothing
abbrev pub tick_after : List Event → ℕ → Option EngineFault → Step Bool
tick_after h now (Some fault) = refuses fault
tick_after h now None =
    if nat_le now (now_of h) then record { answer = Ok false; events = [] }
    else record { answer = Ok true; events = Tick now ∷ [] }

abbrev pub tick_step : List Event → ℕ → Step Bool
tick_step h now = tick_after h now (tick_refusal h now)

abbrev pub revoke_refusal : Given → List Event → ℕ → Option EngineFault
revoke_refusal given h p = held_refusal given h p 2

-- the fault of a commit that failed
abbrev pub failed_of : Result (Unit {0}) ClientFault → Option ClientFault
failed_of (Ok done) = None
failed_of (Err failed) = Some failed

-- the same of what a commit answered, where it was made
abbrev pub failure_of : Result Receipt EngineFault → Result (Option ClientFault) EngineFault
failure_of (Ok receipt) = Ok None
failure_of (Err (Client failed)) = Ok (Some failed)
failure_of (Err fault) = Err fault

-- the revocation of a part, whose commit was stored or failed just before; when out of memory
-- nothing is added
abbrev pub revoke_with : List Event → ℕ → SizedCommit → Result (Unit {0}) ClientFault
    → Step (Option ClientFault)
revoke_with h p c (Err client.NoMemory) = refuses NoMemory
revoke_with h p c outcome = record {
  answer = Ok (failed_of outcome);
  events = Revoke p (epoch_of h p) ∷ (commit_with p c outcome).events;
}

abbrev pub revoke_after : Given → List Event → ℕ → Result (Unit {0}) ClientFault
    → Option EngineFault → Step (Option ClientFault)
revoke_after given h p outcome (Some fault) = refuses fault
revoke_after given h p outcome None = revoke_with h p (commit_of given h p) outcome

abbrev pub revoke_step : Given → List Event → ℕ → Result (Unit {0}) ClientFault
    → Step (Option ClientFault)
revoke_step given h p outcome = revoke_after given h p outcome (revoke_refusal given h p)

-- ---- settle

-- what a settled result is, and the event that it adds
pub record SettledStep (T : Type 0) (task : Ghosts T) : Type 0 where
  pub answer : Settled T task
  pub events : List Event

-- what the result of a current job is, by its outcome
abbrev pub settled_as : {T : Type 0} {task : Ghosts T} → Given → List Event → PlainJob → Outcome
    → Settled T task
settled_as given h job (Good answer) = Succeeded
settled_as given h job (Bad code) =
    Failed (ready_after given.setup.settings.delays job.attempt (now_of h))

-- and the event that it adds
abbrev pub settled_event : Given → List Event → PlainJob → Outcome → Event
settled_event given h job (Good answer) = Success job.ticket answer
settled_event given h job (Bad code) =
    Failure job.ticket code (ready_after given.setup.settings.delays job.attempt (now_of h))

-- the event that a result adds which is expected
abbrev pub settle_event : Given → List Event → PlainJob → Outcome → Event
settle_event given h job outcome =
    if is_held h job.part && (job.epoch == epoch_of h job.part)
    then settled_event given h job outcome else StaleResult job.ticket

-- a result that is expected
abbrev pub settle_step : {T : Type 0} {task : Ghosts T} → Given → List Event → PlainJob → Outcome
    → SettledStep T task
settle_step given h job outcome = record {
  answer = if is_held h job.part && (job.epoch == epoch_of h job.part)
      then settled_as given h job outcome else Stale;
  events = settle_event given h job outcome ∷ [];
}

-- a result that was settled by the step
abbrev pub Settles : {T : Type 0} {task : Ghosts T} → Settled T task → SettledStep T task → List Event → List Event → Type 0
Settles result step before after = (result ≡ step.answer) × (after ≡ step.events ++ before)

-- for how many events there is room beyond those kept for the jobs that are out
abbrev pub spare : History → ℕ
spare journal = journal.room - length (open_jobs journal.events)

-- what a take answered, without where its record and its rules lie in memory
abbrev pub taken : {T : Type 0} → Result (Option (Job T)) EngineFault → Result (Option PlainJob) EngineFault
taken (Ok job) = Ok (option_map plain_job job)
taken (Err fault) = Err fault

-- ---- what the link's client answers

-- What a fetch for the part answered: the link failed only where its count of faults rose, and where
-- it tells its store, this is the broker's answer. For a fetch that was not made any fault stands.
pub record IsFetched (told : Bool) (store : Broker) (before after p : ℕ)
    (outcome : Result Commit ClientFault) : Type 0 where
  pub cause : outcome ≡ Err LinkFailed → HasRisen before after
  pub gives : told ≡ true → FetchGives store p outcome

-- the same of a commit, and what the broker stores then
pub record IsStored (told : Bool) (store store' : Broker) (before after p : ℕ) (c : Commit)
    (outcome : Result (Unit {0}) ClientFault) : Type 0 where
  pub cause : outcome ≡ Err LinkFailed → HasRisen before after
  pub gives : told ≡ true → CommitGives store store' p c outcome

-- ---- the store of a link that tells it

-- What a broker stores changed for those parts of the client's group alone.
pub record StoresOnly (may : ℕ → Bool) (before after : Broker) : Type 0 where
  pub topic : after.topic ≡ before.topic
  pub parts : after.parts ≡ before.parts
  pub memberships : after.memberships ≡ before.memberships
  pub others : (group : List ℕ) (q : ℕ) → (bytes_eq GROUP group && may q) ≡ false
      → stored_for after group q ≡ stored_for before group q

-- what a broker stores is as before after every fault of a call but the link's
abbrev pub KeepsStore : {A : Type 0} → Result A EngineFault → Broker → Broker → Type 0
KeepsStore (Err (Client failed)) before after = Unit {0}
KeepsStore (Err fault) before after = after ≡ before
KeepsStore (Ok done) before after = Unit {0}
