-- Which history a state belongs to.
use Rattle.std.specs.Prelude.{ℕ, ◌+◌, ◌≡◌, ◌≤◌, ◌<◌, Bool, not, ◌&&◌, ◌||◌, ◌==◌, nat_le, nat_lt, if◌then◌else◌, true, List, [], ◌∷◌, map, filter, length, Option, Some, None, is_some, option_map, ⊤, slice_index_or}
use Rattle.std.specs.List.{IsDistinct, list_any}
use Rattle.pc_model.specs.declared.limits.TheConstants.{MAX_EVENTS, MAX_PARTS, MAX_RECORDS}
use Rattle.pc_model.specs.declared.event.Event.{Event}
use Rattle.pc_model.specs.Given.{Given, records_of}
use Rattle.pc_model.specs.Jobs.{dispatch_count, open_jobs}
use Rattle.pc_model.specs.Epochs.{epoch_of, is_held}
use Rattle.pc_model.specs.Record.{Record}
use Rattle.pc_model.specs.Known.{begin_of, is_complete, is_job_at, marks_of, polled_count, polled_records, unpolled_records}
use Rattle.pc_model.specs.Retry.{failures_of, now_of, ready_of}
use Rattle.pc_model.specs.Pressure.{last_size}
use Rattle.pc_model.specs.Next.{last_part}
use Rattle.pc_model.specs.Lawful.{IsLegal}
use Rattle.pc_laws.specs.Lists.{In}
use Rattle.pc_partition.specs.Window.{StandsFor}
use Rattle.pc_retry.specs.declared.queue.Retry.{Retry}
use Rattle.pc_retry.specs.Waiting.{Waiting, room_of}
use Rattle.pc_shards.specs.Entries.{Entry, of_part}
use Rattle.pc_shards.specs.OpenEntries.{open_entries}
use Rattle.pc_state.specs.declared.part.HeldPart.{HeldPart}
use Rattle.pc_state.specs.declared.part.PartState.{PartState}
use Rattle.pc_state.specs.declared.state.State.{State}
use Rattle.pc_state.specs.Ledger.{Counts}
use Rattle.pc_state.specs.OpenJobs.{AreOpen, out_of}

-- whether a job of the part's present epoch is out at the offset
unfoldable pub is_out : List Event → ℕ → ℕ → Bool
is_out h p o = list_any (λ j. is_job_at (Some j) p (epoch_of h p) o) (open_jobs h)

-- whether the offset has no attempt left in the part's present epoch
unfoldable pub is_spent : Given → List Event → ℕ → ℕ → Bool
is_spent given h p o = not (nat_lt (failures_of h p o) given.setup.settings.give_up)

-- whether the offset's retry time is still to come
unfoldable pub is_early : List Event → ℕ → ℕ → Bool
is_early h p o = not (nat_le (ready_of h p o) (now_of h))

-- whether the offset may not be dispatched, though it is the first of its key: a job is out there, or
-- it has no attempt left, or it waits for its time
unfoldable pub is_kept_back : Given → List Event → ℕ → ℕ → Bool
is_kept_back given h p o = is_out h p o || (is_spent given h p o || is_early h p o)

-- the entries of a part: while it is held, its polled, incomplete records
unfoldable pub entries_of : Given → List Event → ℕ → List Entry
entries_of given h p = if is_held h p
    then open_entries given h p (λ r. is_kept_back given h p r.offset) (λ r. failures_of h p r.offset)
    else []

-- what is kept of a held part: its completion state, where its log is to be read on, which gives
-- exactly its records that were not polled, and the size of its last commit
pub record KnowsHeld (given : Given) (h : List Event) (p : ℕ) (held : HeldPart) : Type 0 where
  pub stands : StandsFor held.window.window (begin_of h p) (polled_count h p) (marks_of given h p)
  pub unpolled : unpolled_records given h p ≡ held.rest.left
  pub size : held.size ≡ last_size h p

abbrev pub KnowsPart : Given → List Event → ℕ → Option HeldPart → Type 0
KnowsPart given h p None = ⊤
KnowsPart given h p (Some held) = KnowsHeld given h p held

pub record PartKeeps (given : Given) (h : List Event) (p : ℕ) (part : PartState) : Type 0 where
  pub epoch : part.epoch ≡ epoch_of h p
  pub held : is_some part.held ≡ is_held h p
  pub knows : KnowsPart given h p part.held

-- whether a polled record waits for its retry time: it is incomplete, no job is out for it, and it has
-- an attempt left
unfoldable pub is_waiting : Given → List Event → ℕ → Record → Bool
is_waiting given h p r = not (is_complete h p r.offset) && (not (is_out h p r.offset)
    && (not (is_spent given h p r.offset) && is_early h p r.offset))

-- the retries of a part: while it is held, its records that wait, each with its time
unfoldable pub waiting_of : Given → List Event → ℕ → List Retry
waiting_of given h p = if is_held h p
    then map (λ r. record { ready_at = ready_of h p r.offset; part = p; offset = r.offset })
    (filter (is_waiting given h p) (polled_records given h p))
    else []

-- whether two retries are of one record
abbrev pub same_place : Retry → Retry → Bool
same_place v w = (v.part == w.part) && (v.offset == w.offset)

-- these are the retries of all parts, one for each record that waits
pub record AreWaiting (given : Given) (h : List Event) (retries : List Retry) : Type 0 where
  pub sound : (w : Retry) → In w retries → In w (waiting_of given h w.part)
  pub whole : (w : Retry) → In w (waiting_of given h w.part) → In w retries
  pub once : IsDistinct same_place retries

-- for each job of a held part that is out there is a place among the part's retries
abbrev pub HavePlaces : List Event → Waiting → Type 0
HavePlaces h retries = (p : ℕ) → is_held h p ≡ true → out_of h p ≤ room_of retries p

-- the state is that of a legal history
pub record Knows (given : Given) (h : List Event) (s : State) : Type 0 where
  pub setup : given.setup ≡ s.setup.now
  pub logs : given.logs ≡ s.logs.now
  pub legal : IsLegal given h
  pub limit : length h + length (open_jobs h) ≤ MAX_EVENTS
  pub count : length s.parts.items ≡ length given.logs
  pub few : length given.logs ≤ MAX_PARTS
  pub few_records : (p : ℕ) → length (records_of given p) ≤ MAX_RECORDS
  pub each : (p : ℕ) (d : PartState) → p < length given.logs
      → PartKeeps given h p (slice_index_or s.parts.items p d)
  pub order : s.shards.order ≡ given.setup.settings.order
  pub entries : (p : ℕ) → of_part s.shards p ≡ entries_of given h p
  pub waiting : AreWaiting given h s.retries.retries
  pub places : length (open_jobs h) ≤ s.retries.room
  pub part_places : HavePlaces h s.retries
  pub jobs : AreOpen h s.jobs
  pub clock : s.clock ≡ now_of h
  pub dispatched : s.dispatched ≡ dispatch_count h
  pub last : s.last ≡ last_part h
  pub ledger : Counts given h s.ledger

-- the event may come, and there is a place for it and for the results of the jobs that are out
pub record MayCome (given : Given) (event : Event) (h : List Event) : Type 0 where
  pub legal : IsLegal given (event ∷ h)
  pub limit : length (event ∷ h) + length (open_jobs (event ∷ h)) ≤ MAX_EVENTS

-- each part's epoch is over, and none is held
pub record AreReleased (old new : List PartState) : Type 0 where
  pub count : length new ≡ length old
  pub each : (p : ℕ) (d : PartState) → p < length old
      → slice_index_or new p d ≡ record { epoch = (slice_index_or old p d).epoch + 1; held = None }

-- a held part with another size of its last commit
abbrev pub sized : ℕ → HeldPart → HeldPart
sized size held = record { window = held.window; rest = held.rest; size = Some size }

-- a part with another size of its last commit, if it is held
abbrev pub with_size : ℕ → PartState → PartState
with_size size part = record { epoch = part.epoch; held = option_map (sized size) part.held }
