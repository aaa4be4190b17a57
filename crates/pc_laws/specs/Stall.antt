-- What keeps a held part with work left from standing still.
use Rattle.std.specs.Prelude.{ℕ, ◌≡◌, ◌≤◌, ◌<◌, ◌⊎◌, true, List, Some}
use Rattle.pc_model.specs.declared.event.Event.{Event}
use Rattle.pc_model.specs.Record.{Record}
use Rattle.pc_model.specs.Given.{Given}
use Rattle.pc_model.specs.Jobs.{Job, open_jobs}
use Rattle.pc_model.specs.Epochs.{is_current}
use Rattle.pc_model.specs.Known.{unpolled_records, commit_of}
use Rattle.pc_model.specs.Pressure.{is_blocked}
use Rattle.pc_model.specs.Retry.{now_of, ready_of}
use Rattle.pc_model.specs.Next.{eligible_offsets}
use Rattle.pc_model.specs.Run.{open_records, poll_number, is_commit_due, is_spent}
use Rattle.pc_laws.specs.Lists.{In}

-- a record from the begin on is left that was not polled, or was and is incomplete
abbrev pub HasWork : Given → List Event → ℕ → Type 0
HasWork given h p = ((r : Record) × In r (unpolled_records given h p)) ⊎
    ((r : Record) × In r (open_records given h p))

-- the least record that was polled and is incomplete
pub record IsLeastOpen (given : Given) (h : List Event) (p : ℕ) (r : Record) : Type 0 where
  pub is_open : In r (open_records given h p)
  pub least : (s : Record) → In s (open_records given h p) → r.offset ≤ s.offset

-- why the part goes on: a current job of it is out; a record may be dispatched; its least open
-- record waits for its ready time; its poll is open; it is blocked, and a commit is due that frees
-- it; or its least open record failed as often as it may
pub data GoesOn (given : Given) (h : List Event) (p : ℕ) : Type 0 where
  JobIsOut : (j : Job) → In j (open_jobs h) → j.part ≡ p → is_current h j ≡ true → GoesOn given h p
  IsEligible : (o : ℕ) → In o (eligible_offsets given h p) → GoesOn given h p
  Waits : (r : Record) → IsLeastOpen given h p r → now_of h < ready_of h p r.offset →
      GoesOn given h p
  PollIsOpen : (n : ℕ) → poll_number given h p ≡ Some n → GoesOn given h p
  CommitIsDue : is_blocked given h p ≡ true → is_commit_due given h p ≡ true →
      (commit_of given h p).size ≡ 0 → GoesOn given h p
  IsSpent : (r : Record) → IsLeastOpen given h p r → is_spent given h p r ≡ true → GoesOn given h p
