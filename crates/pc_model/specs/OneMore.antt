-- What one more event leaves as it was.
use Rattle.std.specs.Prelude.{ℕ, ◌≡◌, Bool, true, false, ◌==◌, ◌||◌, List, map, Option, Some, None}
use Rattle.pc_model.specs.declared.event.Event.{Event}
use Rattle.pc_model.specs.declared.event.Event.TheVariants.{Assign, Poll, Success, Failure, Commit as Committed, CommitFailed, Revoke, Lost, Crash}
use Rattle.pc_model.specs.Given.{Given}
use Rattle.pc_model.specs.Jobs.{Job, job_of}
use Rattle.pc_model.specs.Epochs.{epoch_of, is_held}
use Rattle.pc_model.specs.Stored.{may_store}
use Rattle.pc_model.specs.Marks.{Mark}
use Rattle.pc_model.specs.Known.{assigned_commit, polled_count, has_succeeded}
use Rattle.pc_model.specs.Pressure.{last_size}
use Rattle.pc_model.specs.Retry.{failures_in, ready_in}
use Rattle.pc_model.specs.Run.{new_successes, has_unstored_success}

-- whether there is a job, and it is one of the part
abbrev pub is_job_of_part : Option Job → ℕ → Bool
is_job_of_part None p = false
is_job_of_part (Some j) p = j.part == p

-- whether this event, which follows the history, changes what is said of the part
abbrev pub touches : Event → List Event → ℕ → Bool
touches (Assign q epoch position text) h p = q == p
touches (Poll q count last) h p = q == p
touches (Success ticket answer) h p = is_job_of_part (job_of h ticket) p
touches (Failure ticket code ready) h p = is_job_of_part (job_of h ticket) p
touches (Committed q position text size) h p = q == p
touches (CommitFailed q position text size) h p = q == p
touches (Revoke q epoch) h p = q == p
touches (Lost q epoch) h p = q == p
touches Crash h p = true
touches _ h p = false

-- what is said of the part is the same in both histories: its epoch and whether it is held, what it
-- was assigned with and how much was polled, what succeeded and failed in each epoch, and what may
-- be stored and was not stored yet
pub record SamePart (given : Given) (p : ℕ) (before after : List Event) : Type 0 where
  pub epoch : epoch_of after p ≡ epoch_of before p
  pub held : is_held after p ≡ is_held before p
  pub assigned : assigned_commit after p ≡ assigned_commit before p
  pub polled : polled_count after p ≡ polled_count before p
  pub succeeded : (e o : ℕ) → has_succeeded after p e o ≡ has_succeeded before p e o
  pub failures : (e o : ℕ) → failures_in after p e o ≡ failures_in before p e o
  pub ready : (e o : ℕ) → ready_in after p e o ≡ ready_in before p e o
  pub stored : may_store given after p ≡ may_store given before p
  pub size : last_size after p ≡ last_size before p
  pub fresh : (e : ℕ) → new_successes after p e ≡ new_successes before p e
  pub unstored : (e : ℕ) → has_unstored_success after p e ≡ has_unstored_success before p e

-- the marks where one more offset is complete
abbrev pub with_complete : ℕ → List Mark → List Mark
with_complete o marks = map
    (λ m. record { offset = m.offset; is_complete = (o == m.offset) || m.is_complete }) marks
