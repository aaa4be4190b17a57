-- The tests by which a run decides what to do next.
use Rattle.std.specs.Prelude.{ℕ, ◌+◌, ◌-◌, min, Bool, false, not, ◌&&◌, ◌||◌, ◌==◌, nat_lt, nat_le, if◌then◌else◌, List, [], ◌∷◌, map, length, Option, Some, None, is_none, filter, slice_get, flat_map}
use Rattle.std.specs.List.{list_any, list_all}
use Rattle.std.specs.Option.{option_map_or}
use Rattle.pc_model.specs.declared.event.Event.{Event}
use Rattle.pc_model.specs.declared.event.Event.TheVariants.{Success, Assign, Commit as Committed, CommitFailed}
use Rattle.pc_model.specs.Record.{Record}
use Rattle.pc_model.specs.Numbers.{least_of}
use Rattle.pc_model.specs.Given.{Given}
use Rattle.pc_model.specs.Jobs.{job_of, is_draining, open_jobs}
use Rattle.pc_model.specs.Epochs.{epoch_of, is_held, is_current}
use Rattle.pc_model.specs.Known.{polled_records, unpolled_records, is_complete}
use Rattle.pc_model.specs.Pressure.{is_blocked, is_upto_high}
use Rattle.pc_model.specs.Retry.{now_of, failures_of, ready_of}
use Rattle.pc_model.specs.Next.{is_before}
use Rattle.pc_model.specs.Lawful.{held_parts, is_stored}

-- the part's polled records that are not complete
unfoldable pub open_records : Given → List Event → ℕ → List Record
open_records given h p = filter (λ r. not (is_complete h p r.offset)) (polled_records given h p)

-- whether the next record may be polled, under pressure only up to the part's high
abbrev pub may_poll_next : Given → List Event → ℕ → Option Record → Bool
may_poll_next given h p None = false
may_poll_next given h p (Some r) = not (is_blocked given h p) || is_upto_high given h p r.offset

-- how many records to poll of the part, where its poll is open: it is held, nothing drains, a
-- record is left that may be polled, and fewer polled records are open than the buffer takes
unfoldable pub poll_number : Given → List Event → ℕ → Option ℕ
poll_number given h p =
    if is_held h p && not (is_draining h) && may_poll_next given h p
    (slice_get (unpolled_records given h p) 0)
    && nat_lt (length (open_records given h p)) given.setup.settings.buffer
    then Some (min given.setup.settings.poll_max (given.setup.settings.buffer - length (open_records given h p)))
    else None

-- whether this event is an assignment or a commit of the part, stored or failed
abbrev pub is_commit_or_assign : Event → ℕ → Bool
is_commit_or_assign (Assign p epoch position text) q = p == q
is_commit_or_assign (Committed p position text size) q = p == q
is_commit_or_assign (CommitFailed p position text size) q = p == q
is_commit_or_assign _ q = false

-- whether this event, which follows the history, is a success of the part in the epoch
abbrev pub is_success_of : Event → List Event → ℕ → ℕ → Bool
is_success_of (Success t answer) h p epoch = option_map_or
    (λ j. (j.part == p) && (j.epoch == epoch)) (job_of h t) false
is_success_of _ h p epoch = false

-- how many successes of the part in the epoch stand after its last assignment or commit, stored or
-- failed
abbrev pub new_successes : List Event → ℕ → ℕ → ℕ
new_successes [] p epoch = 0
new_successes (e ∷ h) p epoch = if is_commit_or_assign e p then 0
    else if is_success_of e h p epoch then new_successes h p epoch + 1 else new_successes h p epoch

-- whether the part's commit is due: it is held, and has enough new successes, or is blocked and has
-- one
abbrev pub is_commit_due : Given → List Event → ℕ → Bool
is_commit_due given h p = is_held h p
    && (nat_le given.setup.settings.commit_every (new_successes h p (epoch_of h p))
    || (is_blocked given h p && nat_lt 0 (new_successes h p (epoch_of h p))))

-- whether this event stores a commit of the part for certain
abbrev pub stores : Event → ℕ → Bool
stores (Assign p epoch position text) q = p == q
stores (Committed p position text size) q = p == q
stores _ q = false

-- whether a success of the part in the epoch stands after its last stored commit since the
-- assignment
abbrev pub has_unstored_success : List Event → ℕ → ℕ → Bool
has_unstored_success [] p epoch = false
has_unstored_success (e ∷ h) p epoch = if stores e p then false else is_success_of e h p epoch
    || has_unstored_success h p epoch

-- whether the held part has something that is not stored for certain
abbrev pub is_unsaved : Given → List Event → ℕ → Bool
is_unsaved given h p = is_held h p
    && (not (is_stored given h p) || has_unstored_success h p (epoch_of h p))

-- whether the record failed as often as it may
abbrev pub is_spent : Given → List Event → ℕ → Record → Bool
is_spent given h p r = nat_le given.setup.settings.give_up (failures_of h p r.offset)

-- whether an open record is given up: it is spent, or an earlier open record of its ordering key
-- is, or its part is blocked and it lies above the part's high
unfoldable pub is_given_up : Given → List Event → ℕ → Record → Bool
is_given_up given h p r = is_spent given h p r
    || list_any (λ q. is_before given p q r && is_spent given h p q) (open_records given h p)
    || (is_blocked given h p && not (is_upto_high given h p r.offset))

-- whether nothing is left to do of the part: no commit is due, no poll is open, and each open
-- record is given up
abbrev pub is_part_at_rest : Given → List Event → ℕ → Bool
is_part_at_rest given h p = not (is_commit_due given h p) && is_none (poll_number given h p)
    && list_all (is_given_up given h p) (open_records given h p)

-- whether the run is at rest: no current job is outstanding, and nothing is left to do of any held
-- part
unfoldable pub is_at_rest : Given → List Event → Bool
is_at_rest given h = not (list_any (is_current h) (open_jobs h)) && list_all
    (is_part_at_rest given h) (held_parts given h)

-- whether the record waits for its ready time, and has attempts left
abbrev pub is_waiting : Given → List Event → ℕ → Record → Bool
is_waiting given h p r = nat_lt 0 (failures_of h p r.offset) && not (is_spent given h p r) && nat_lt
    (now_of h) (ready_of h p r.offset)

-- the ready times of the part's open records that wait
abbrev pub waiting_times : Given → List Event → ℕ → List ℕ
waiting_times given h p = map (λ r. ready_of h p r.offset)
    (filter (is_waiting given h p) (open_records given h p))

-- the least ready time that is still to come, of all held parts
unfoldable pub next_time : Given → List Event → Option ℕ
next_time given h = least_of (flat_map (waiting_times given h) (held_parts given h))

-- how many successes there were
abbrev pub success_count : List Event → ℕ
success_count [] = 0
success_count (Success t answer ∷ h) = success_count h + 1
success_count (_ ∷ h) = success_count h
