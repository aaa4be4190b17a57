-- The test of a history: it computes true exactly where the history is legal.
use Rattle.std.specs.Prelude.{ℕ, ◌+◌, ◌-◌, Bool, true, false, not, ◌&&◌, ◌||◌, ◌==◌, nat_lt, List, [], ◌∷◌, Option, Some, None, option_map, slice_get, bytes_eq}
use Rattle.std.specs.List.{list_all}
use Rattle.pc_model.specs.declared.event.Event.{Event}
use Rattle.pc_model.specs.declared.event.Event.TheVariants.{Assign, Poll, Dispatch, Success, Failure, Stale, Commit as Committed, CommitFailed, Revoke, Lost, Crash, Tick, Drain, Done, Closed}
use Rattle.pc_model.specs.declared.commit.SizedCommit.{SizedCommit}
use Rattle.pc_model.specs.declared.outcome.Outcome.{Outcome}
use Rattle.pc_model.specs.declared.outcome.Outcome.TheVariants.{Good, Bad}
use Rattle.pc_model.specs.Given.{Given, has_log, all_logs_rise}
use Rattle.pc_model.specs.Jobs.{dispatch_count, is_outstanding, has_ended, is_draining}
use Rattle.pc_model.specs.Epochs.{epoch_of, is_held, is_current_ticket}
use Rattle.pc_model.specs.Stored.{may_store, is_entry}
use Rattle.pc_model.specs.Known.{unpolled_records, commit_of}
use Rattle.pc_model.specs.Pressure.{is_blocked, is_upto_high}
use Rattle.pc_model.specs.Retry.{now_of, failures_of, ready_after}
use Rattle.pc_model.specs.Outcomes.{ticket_outcome, ticket_attempt}
use Rattle.pc_model.specs.Next.{next_record}
use Rattle.pc_model.specs.Lawful.{ends_in_commit, is_finished, held_parts}

-- whether there is a number, and it is this one
abbrev pub is_number : Option ℕ → ℕ → Bool
is_number None n = false
is_number (Some m) n = m == n

-- whether there is a record to dispatch, and it is this one
abbrev pub is_record : Option (ℕ × ℕ) → ℕ → ℕ → Bool
is_record None p o = false
is_record (Some next) p o = (next.0 == p) && (next.1 == o)

-- whether the outcome is a success with this answer
abbrev pub is_good : Option Outcome → List ℕ → Bool
is_good (Some (Good answer)) bytes = bytes_eq answer bytes
is_good _ bytes = false

-- whether the outcome is a failure with this code
abbrev pub is_bad : Option Outcome → ℕ → Bool
is_bad (Some (Bad code)) n = code == n
is_bad _ n = false

-- whether the commit has this position, map and size
abbrev pub is_sized : SizedCommit → ℕ → List ℕ → ℕ → Bool
is_sized c position text size =
    (c.commit.position == position) && (bytes_eq c.commit.map text && (c.size == size))

-- whether a commit of the part may come, stored or failed
abbrev pub is_commit_lawful : Given → List Event → ℕ → ℕ → List ℕ → ℕ → Bool
is_commit_lawful given h p position text size = is_held h p && is_sized
    (commit_of given h p) position text size

-- whether the event may come after the history, but for the rule that none follows an end
abbrev pub is_lawful : Given → Event → List Event → Bool
is_lawful given (Assign p epoch position text) h = has_log given p
    && (not (is_held h p) && (not (is_draining h)
    && ((epoch == epoch_of h p + 1)
    && (not given.is_told || is_entry (may_store given h p)
    (record { position = position; map = text })))))
is_lawful given (Poll p count last) h = is_held h p && (not (is_draining h) && (nat_lt 0 count
    && (is_number (option_map (λ r. r.offset) (slice_get (unpolled_records given h p) (count - 1)))
    last
    && (not (is_blocked given h p) || is_upto_high given h p last))))
is_lawful given (Dispatch ticket worker p o epoch attempt) h =
    (ticket == dispatch_count h + 1) && (nat_lt worker 256
    && (is_record (next_record given h) p o
    && ((epoch == epoch_of h p) && (attempt == failures_of h p o + 1))))
is_lawful given (Success ticket answer) h = is_outstanding h ticket && (is_current_ticket h ticket
    && is_good (ticket_outcome given h ticket) answer)
is_lawful given (Failure ticket code ready) h = is_outstanding h ticket
    && (is_current_ticket h ticket
    && (is_bad (ticket_outcome given h ticket) code
    && (ready == ready_after given.setup.settings.delays (ticket_attempt h ticket) (now_of h))))
is_lawful given (Stale ticket) h = is_outstanding h ticket && not (is_current_ticket h ticket)
is_lawful given (Committed p position text size) h = is_commit_lawful given h p position text size
is_lawful given (CommitFailed p position text size) h =
    is_commit_lawful given h p position text size
is_lawful given (Revoke p epoch) h = ends_in_commit h p && (epoch == epoch_of h p)
is_lawful given (Lost p epoch) h = is_held h p && (epoch == epoch_of h p)
is_lawful given Crash h = true
is_lawful given (Tick now) h = nat_lt (now_of h) now
is_lawful given Drain h = not (is_draining h)
is_lawful given Done h = list_all (is_finished given h) (held_parts given h)
is_lawful given Closed h = true

-- whether the history is legal
abbrev pub is_legal : Given → List Event → Bool
is_legal given [] = all_logs_rise given
is_legal given (e ∷ h) = is_lawful given e h && (not (has_ended h) && is_legal given h)
