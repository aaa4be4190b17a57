-- The pace of a run: when each event may come that moves no part.
use Rattle.std.specs.Prelude.{ℕ, Bool, true, false, not, ◌&&◌, ◌||◌, ◌==◌, nat_le, nat_lt, List, [], ◌∷◌, length, Option, Some, None, is_none}
use Rattle.std.specs.List.{list_any, list_all}
use Rattle.std.specs.Option.{option_map_or}
use Rattle.pc_model.specs.declared.event.Event.{Event}
use Rattle.pc_model.specs.declared.event.Event.TheVariants.{Poll, Dispatch, Failure, Stale, Commit as Committed, CommitFailed, Revoke, Tick, Drain, Done, Closed}
use Rattle.pc_model.specs.declared.outcome.Outcome.{Outcome}
use Rattle.pc_model.specs.declared.outcome.Outcome.TheVariants.{Good, Bad}
use Rattle.pc_model.specs.declared.step.Act.TheVariants as act
use Rattle.pc_model.specs.declared.step.Step.{Step}
use Rattle.pc_model.specs.Given.{Given, parts_of}
use Rattle.pc_model.specs.Jobs.{is_draining, open_jobs}
use Rattle.pc_model.specs.Outcomes.{job_outcome, ticket_outcome}
use Rattle.pc_model.specs.Run.{is_at_rest, is_commit_due, is_unsaved, next_time, poll_number, success_count}
use Rattle.pc_model.specs.Steps.{may_begin, next_step, place_of}

-- whether the outcome is a failure
abbrev pub is_failing : Option Outcome → Bool
is_failing None = false
is_failing (Some (Good answer)) = false
is_failing (Some (Bad code)) = true

-- whether a commit of the part saves what is not stored for certain, at the end of a drain
abbrev pub saves_at_rest : Given → List Event → ℕ → Bool
saves_at_rest given h p = is_draining h && is_at_rest given h && is_unsaved given h p

-- whether a commit of the part may come that begins no revocation
abbrev pub is_commit_paced : Given → List Event → ℕ → Bool
is_commit_paced given h p = is_commit_due given h p || saves_at_rest given h p

-- whether a commit of the part may come, stored or failed: one that is due, that saves, or that
-- begins the part's revocation
abbrev pub may_commit : Given → List Step → List Event → ℕ → Bool
may_commit given steps h p = is_commit_paced given h p || may_begin given steps h (act.Revoke p)

-- whether a record waits for this time, or for an earlier one that is still to come
abbrev pub is_time : Given → List Event → ℕ → Bool
is_time given h now = option_map_or (λ time. nat_le time now) (next_time given h) false

-- whether nothing is to be done of the part before a record is dispatched
abbrev pub is_tended : Given → List Event → ℕ → Bool
is_tended given h p = not (is_commit_due given h p) && is_none (poll_number given h p)

-- whether the event may come by the pace. A poll takes at most the records of the part's open poll. A
-- commit is due, saves what is not stored, or begins a revocation. A tick reaches the time of a
-- record that waits, or comes before the result of a failure. A dispatch comes where no commit is
-- due, no poll is open, and so many records have not yet succeeded that the next step is due. A
-- drain begins at rest after all steps, and only after it all is done. No run is closed.
abbrev pub is_paced_at : Given → List Step → Event → List Event → Bool
is_paced_at given steps (Poll p count last) h = option_map_or (nat_le count) (poll_number given h p)
    false
is_paced_at given steps (Committed p position text size) h = may_commit given steps h p
is_paced_at given steps (CommitFailed p position text size) h = may_commit given steps h p
is_paced_at given steps (Tick now) h = is_time given h now || list_any
    (λ j. is_failing (job_outcome given j)) (open_jobs h)
is_paced_at given steps (Dispatch ticket worker p o epoch attempt) h = list_all
    (is_tended given h) (parts_of given)
    && option_map_or (λ step. nat_lt (success_count h) step.count) (next_step given steps h) true
is_paced_at given steps Drain h = nat_le (length steps) (place_of given h).begun && is_at_rest given h
is_paced_at given steps Done h = is_draining h
is_paced_at given steps Closed h = false
is_paced_at given steps _ h = true

-- whether the event is the revocation of the part
abbrev pub is_revoke_of : Event → ℕ → Bool
is_revoke_of (Revoke q epoch) p = q == p
is_revoke_of _ p = false

-- whether the event is a failure, or the result of one whose epoch is over
abbrev pub is_failed_result : Given → List Event → Event → Bool
is_failed_result given h (Failure ticket code ready) = true
is_failed_result given h (Stale ticket) = is_failing (ticket_outcome given h ticket)
is_failed_result given h _ = false

-- whether the event may come right after the last one: after a commit that was not due and does not
-- save, only the revocation that it began; after a commit that was to save and failed, none; and
-- after a tick that no record waits for, only the result of a failure
abbrev pub goes_with : Given → List Event → Event → Bool
goes_with given [] e = true
goes_with given (Committed p position text size ∷ h) e =
    is_commit_paced given h p || is_revoke_of e p
goes_with given (CommitFailed p position text size ∷ h) e =
    is_commit_due given h p || is_revoke_of e p
goes_with given (Tick now ∷ h) e = is_time given h now || is_failed_result given (Tick now ∷ h) e
goes_with given (_ ∷ h) e = true

-- whether the history keeps to the pace of a run by these steps
abbrev pub is_paced : Given → List Step → List Event → Bool
is_paced given steps [] = true
is_paced given steps (e ∷ h) =
    is_paced_at given steps e h && (goes_with given h e && is_paced given steps h)
