-- What every legal history keeps: the facts that the laws rest on.
use Rattle.std.specs.Prelude.{ℕ, ◌+◌, ◌≡◌, ◌<◌, ◌⊎◌, Bool, true, false, ◌==◌, List, Some}
use Rattle.pc_model.specs.declared.event.Event.{Event}
use Rattle.pc_model.specs.declared.event.Event.TheVariants.{Assign}
use Rattle.pc_model.specs.declared.commit.Commit.{Commit}
use Rattle.pc_model.specs.Record.{Record}
use Rattle.pc_model.specs.Given.{Given}
use Rattle.pc_model.specs.Jobs.{Job, jobs_of, open_jobs}
use Rattle.pc_model.specs.Epochs.{epoch_of, is_held, is_current}
use Rattle.pc_model.specs.Stored.{may_store}
use Rattle.pc_model.specs.Known.{assigned_commit, records_from_begin, polled_records, known_records, has_succeeded, is_complete, high_of}
use Rattle.pc_model.specs.Pressure.{is_blocked}
use Rattle.pc_model.specs.Retry.{failures_of}
use Rattle.pc_model.specs.Next.{OrderingKey, has_key}
use Rattle.pc_model.specs.Sound.{was_done, PassesSoundly}
use Rattle.pc_laws.specs.Lists.{In, IsFront}
use Rattle.pc_laws.specs.Positions.{IsInOrder}

-- the three facts from which soundness follows
pub record KeepsPassing (given : Given) (h : List Event) : Type 0 where
  -- what succeeded in any epoch was done in an epoch then current
  pub done : (p e o : ℕ) → has_succeeded h p e o ≡ true → was_done h p o ≡ true
  -- the commit that a held part was assigned with passes over nothing else
  pub assigned : (p : ℕ) → is_held h p ≡ true → PassesSoundly given h p (assigned_commit h p)
  -- nor does any commit that may be stored
  pub stored : (p : ℕ) (c : Commit) → In c (may_store given h p) → PassesSoundly given h p c

-- the job's record was polled and is incomplete, and the job is the attempt after its failures
pub record IsWorking (given : Given) (h : List Event) (j : Job) : Type 0 where
  pub polled : (r : Record) × In r (polled_records given h j.part) × (r.offset ≡ j.offset)
  pub incomplete : is_complete h j.part j.offset ≡ false
  pub attempt : j.attempt ≡ failures_of h j.part j.offset + 1

-- what every legal history keeps of its jobs
pub record KeepsJobs (given : Given) (h : List Event) : Type 0 where
  -- a job's epoch is over, or it is that of its part, which is held; so a job that is not current
  -- is never current again, for epochs only grow
  pub past : (j : Job) → In j (jobs_of h)
      → (j.epoch < epoch_of h j.part) ⊎ ((j.epoch ≡ epoch_of h j.part) × (is_held h j.part ≡ true))
  -- a current job that is out is at work on a record
  pub working : (j : Job) → In j (open_jobs h) → is_current h j ≡ true → IsWorking given h j
  -- of one ordering key at most one current job is out
  pub alone : (i j : Job) (key : OrderingKey) → In i (open_jobs h) → In j (open_jobs h)
      → is_current h i ≡ true → is_current h j ≡ true
      → has_key given key i ≡ true → has_key given key j ≡ true → i.ticket ≡ j.ticket

-- all of it
pub record IsKept (given : Given) (h : List Event) : Type 0 where
  -- the records of a part that were polled are the first of its log from the begin on
  pub polled : (p : ℕ) → IsFront (polled_records given h p) (records_from_begin given h p)
  -- and so are the known ones
  pub known : (p : ℕ) → IsFront (known_records given h p) (records_from_begin given h p)
  -- over a link that tells its store, nothing is passed over that was not done
  pub passing : given.is_told ≡ true → KeepsPassing given h
  -- of each key one job at most is out, and it is at work
  pub jobs : KeepsJobs given h
  -- a part that is held and blocked has a greatest complete offset
  pub high : (p : ℕ) → is_held h p ≡ true → is_blocked given h p ≡ true
      → (g : ℕ) × (high_of given h p ≡ Some g)
  -- over such a link, the commits that may be stored for a part stand in order
  pub order : given.is_told ≡ true → (p : ℕ) → IsInOrder given h p

-- whether the event is an assignment of the part
abbrev pub is_assign_of : Event → ℕ → Bool
is_assign_of (Assign p epoch position text) q = p == q
is_assign_of v q = false
