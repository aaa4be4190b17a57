-- Which event may come next, and which histories are legal.
use Rattle.std.specs.Prelude.{ℕ, ◌+◌, ◌-◌, ◌<◌, ◌≡◌, Bool, true, false, ◌&&◌, ◌==◌, List, [], ◌∷◌, Some, filter, option_map, slice_get}
use Rattle.std.specs.List.{list_all}
use Rattle.pc_model.specs.declared.event.Event.{Event}
use Rattle.pc_model.specs.declared.event.Event.TheVariants.{Assign, Poll, Dispatch, Success, Failure, Stale, Commit as Committed, CommitFailed, Revoke, Lost, Crash, Tick, Drain, Done, Closed}
use Rattle.pc_model.specs.declared.outcome.Outcome.TheVariants.{Good, Bad}
use Rattle.pc_model.specs.Given.{Given, has_log, parts_of, all_logs_rise}
use Rattle.pc_model.specs.Jobs.{dispatch_count, is_outstanding, has_ended, is_draining}
use Rattle.pc_model.specs.Epochs.{epoch_of, is_held, is_current_ticket}
use Rattle.pc_model.specs.Stored.{may_store, is_entry}
use Rattle.pc_model.specs.Marks.{incomplete_offsets}
use Rattle.pc_model.specs.Known.{unpolled_records, marks_of, position_of, commit_of}
use Rattle.pc_model.specs.Pressure.{is_blocked, is_upto_high}
use Rattle.pc_model.specs.Retry.{now_of, failures_of, ready_after}
use Rattle.pc_model.specs.Outcomes.{ticket_outcome, ticket_attempt}
use Rattle.pc_model.specs.Next.{next_record}

-- an assignment may come: the part has a log and is not held, nothing drains, the epoch is the next
-- one, and the link, where it tells its store, may hold this commit
pub record AssignIsLawful (given : Given) (h : List Event) (p epoch position : ℕ) (text : List ℕ)
    : Type 0 where
  pub known : has_log given p ≡ true
  pub free : is_held h p ≡ false
  pub running : is_draining h ≡ false
  pub epoch_is : epoch ≡ epoch_of h p + 1
  pub stored : given.is_told ≡ true → is_entry (may_store given h p)
      (record { position = position; map = text }) ≡ true

-- a poll may come: the part is held, nothing drains, so many records are left, the last of them is
-- this one, and under pressure it is not above the part's high
pub record PollIsLawful (given : Given) (h : List Event) (p count last : ℕ) : Type 0 where
  pub held : is_held h p ≡ true
  pub running : is_draining h ≡ false
  pub some : 0 < count
  pub last_is : option_map (λ r. r.offset) (slice_get (unpolled_records given h p) (count - 1))
      ≡ Some last
  pub pressed : is_blocked given h p ≡ true → is_upto_high given h p last ≡ true

-- a dispatch may come: it has the next ticket, a worker's number, the next record, and that
-- record's epoch and attempt
pub record DispatchIsLawful (given : Given) (h : List Event) (ticket worker p o epoch attempt : ℕ)
    : Type 0 where
  pub ticket_is : ticket ≡ dispatch_count h + 1
  pub worker_is : worker < 256
  pub record_is : next_record given h ≡ Some (p, o)
  pub epoch_is : epoch ≡ epoch_of h p
  pub attempt_is : attempt ≡ failures_of h p o + 1

-- a success may come: the ticket is outstanding and current, and the function gives this answer
pub record SuccessIsLawful (given : Given) (h : List Event) (ticket : ℕ) (answer : List ℕ)
    : Type 0 where
  pub outstanding : is_outstanding h ticket ≡ true
  pub current : is_current_ticket h ticket ≡ true
  pub outcome : ticket_outcome given h ticket ≡ Some (Good answer)

-- a failure may come: the same with this code, and the record waits as the delays say
pub record FailureIsLawful (given : Given) (h : List Event) (ticket code ready : ℕ) : Type 0 where
  pub outstanding : is_outstanding h ticket ≡ true
  pub current : is_current_ticket h ticket ≡ true
  pub outcome : ticket_outcome given h ticket ≡ Some (Bad code)
  pub ready_is : ready ≡ ready_after given.setup.settings.delays (ticket_attempt h ticket) (now_of h)

-- a stale result may come: the ticket is outstanding, and its epoch is over
pub record StaleIsLawful (h : List Event) (ticket : ℕ) : Type 0 where
  pub outstanding : is_outstanding h ticket ≡ true
  pub past : is_current_ticket h ticket ≡ false

-- a commit may come, stored or failed: the part is held, and this is its commit
pub record CommitIsLawful (given : Given) (h : List Event) (p position : ℕ) (text : List ℕ)
    (size : ℕ) : Type 0 where
  pub held : is_held h p ≡ true
  pub commit_is : commit_of given h p ≡ record
      { commit = record { position = position; map = text }; size = size }

-- whether the last event is a commit of the part, stored or failed
abbrev pub ends_in_commit : List Event → ℕ → Bool
ends_in_commit (Committed p position text size ∷ h) q = p == q
ends_in_commit (CommitFailed p position text size ∷ h) q = p == q
ends_in_commit _ q = false

-- a revocation may come: the event just before is a commit of the part, and it ends the part's
-- epoch
pub record RevokeIsLawful (h : List Event) (p epoch : ℕ) : Type 0 where
  pub after_commit : ends_in_commit h p ≡ true
  pub epoch_is : epoch ≡ epoch_of h p

-- a loss may come: the part is held, and it ends the part's epoch
pub record LossIsLawful (h : List Event) (p epoch : ℕ) : Type 0 where
  pub held : is_held h p ≡ true
  pub epoch_is : epoch ≡ epoch_of h p

-- whether there is nothing in the list
abbrev pub is_nil : {X : Type 0} → List X → Bool
is_nil [] = true
is_nil (x ∷ xs) = false

-- whether each commit that may be stored for the part has its position
unfoldable pub is_stored : Given → List Event → ℕ → Bool
is_stored given h p = list_all (λ c. c.position == position_of given h p) (may_store given h p)

-- whether every record of the part was polled and is complete, and that is stored
unfoldable pub is_finished : Given → List Event → ℕ → Bool
is_finished given h p = is_nil (unpolled_records given h p) && is_nil
    (incomplete_offsets (marks_of given h p)) && is_stored given h p

-- the parts that are held
abbrev pub held_parts : Given → List Event → List ℕ
held_parts given h = filter (is_held h) (parts_of given)

-- whether this event may come after the history, but for the rule that none follows an end
abbrev pub IsLawful : Given → Event → List Event → Type 0
IsLawful given (Assign p epoch position text) h = AssignIsLawful given h p epoch position text
IsLawful given (Poll p count last) h = PollIsLawful given h p count last
IsLawful given (Dispatch ticket worker p o epoch attempt) h =
    DispatchIsLawful given h ticket worker p o epoch attempt
IsLawful given (Success ticket answer) h = SuccessIsLawful given h ticket answer
IsLawful given (Failure ticket code ready) h = FailureIsLawful given h ticket code ready
IsLawful given (Stale ticket) h = StaleIsLawful h ticket
IsLawful given (Committed p position text size) h = CommitIsLawful given h p position text size
IsLawful given (CommitFailed p position text size) h = CommitIsLawful given h p position text size
IsLawful given (Revoke p epoch) h = RevokeIsLawful h p epoch
IsLawful given (Lost p epoch) h = LossIsLawful h p epoch
IsLawful given Crash h = Unit {0}
IsLawful given (Tick now) h = now_of h < now
IsLawful given Drain h = is_draining h ≡ false
IsLawful given Done h = list_all (is_finished given h) (held_parts given h) ≡ true
IsLawful given Closed h = Unit {0}

-- a legal history: the offsets of each log rise, each event was lawful after those before it, and
-- none follows an end
abbrev pub IsLegal : Given → List Event → Type 0
IsLegal given [] = all_logs_rise given ≡ true
IsLegal given (e ∷ h) = IsLawful given e h × (has_ended h ≡ false) × IsLegal given h
