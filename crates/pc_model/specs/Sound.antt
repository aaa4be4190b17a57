-- What a legal history promises: it is sound and orderly.
use Rattle.std.specs.Prelude.{ℕ, ◌≡◌, Bool, true, false, not, ◌&&◌, ◌||◌, ◌⊎◌, ◌==◌, nat_le, List, [], ◌∷◌, Option, Some, None}
use Rattle.std.specs.List.{list_any, list_all}
use Rattle.pc_model.specs.declared.event.Event.{Event}
use Rattle.pc_model.specs.declared.event.Event.TheVariants.{Dispatch, Success, Commit as Committed, CommitFailed}
use Rattle.pc_model.specs.declared.commit.Commit.{Commit}
use Rattle.pc_model.specs.Record.{Record}
use Rattle.pc_model.specs.Given.{Given, record_at, records_of, start_of}
use Rattle.pc_model.specs.Jobs.{Job, job_of, open_jobs}
use Rattle.pc_model.specs.Epochs.{is_current}
use Rattle.pc_model.specs.Stored.{passes}
use Rattle.pc_model.specs.Known.{assigned_commit, begin_of, has_succeeded}
use Rattle.pc_model.specs.Next.{ordering_key, has_key, is_before}

-- whether the job is one of the part and the offset, and its epoch is current
abbrev pub is_current_job_at : List Event → Option Job → ℕ → ℕ → Bool
is_current_job_at h None p o = false
is_current_job_at h (Some j) p o = (j.part == p) && (j.offset == o) && is_current h j

-- whether this event is a success of the offset in an epoch that was current just before it
abbrev pub is_current_success : Event → List Event → ℕ → ℕ → Bool
is_current_success (Success t answer) h p o = is_current_job_at h (job_of h t) p o
is_current_success _ h p o = false

-- whether the function succeeded on the part's record at the offset, in an epoch then current
abbrev pub was_done : List Event → ℕ → ℕ → Bool
was_done [] p o = false
was_done (e ∷ h) p o = is_current_success e h p o || was_done h p o

-- an offset that may be passed over: the log has no record there, it was passed over at the start,
-- or it was done
abbrev pub MayPass : Given → List Event → ℕ → ℕ → Type 0
MayPass given h p o =
    (record_at given p o ≡ None) ⊎ (passes (start_of given p) o ≡ true) ⊎ (was_done h p o ≡ true)

-- the commit of the part passes over nothing else
abbrev pub PassesSoundly : Given → List Event → ℕ → Commit → Type 0
PassesSoundly given h p c = (o : ℕ) → passes c o ≡ true → MayPass given h p o

-- this event, if it is a commit, passes over nothing else
abbrev pub IsSoundAt : Given → Event → List Event → Type 0
IsSoundAt given (Committed p position text size) h = PassesSoundly given h p
    (record { position = position; map = text })
IsSoundAt given (CommitFailed p position text size) h = PassesSoundly given h p
    (record { position = position; map = text })
IsSoundAt given _ h = Unit {0}

-- nothing is passed over that was not done: so it is of each commit of the history, stored or
-- failed
abbrev pub IsSound : Given → List Event → Type 0
IsSound given [] = Unit {0}
IsSound given (e ∷ h) = IsSoundAt given e h × IsSound given h

-- whether every record of the part from its begin on that stands before this one and shares its
-- ordering key is passed over by the assignment's commit or succeeded in the epoch
abbrev pub are_earlier_done : Given → List Event → ℕ → ℕ → Record → Bool
are_earlier_done given h p epoch r = list_all
    (λ q. not (nat_le (begin_of h p) q.offset && is_before given p q r) || passes
    (assigned_commit h p) q.offset || has_succeeded h p epoch q.offset)
    (records_of given p)

-- a dispatch in order: no other current job of the record's ordering key is outstanding, and the
-- earlier records of that key are done
pub record DispatchIsOrderly (given : Given) (h : List Event) (p epoch : ℕ) (r : Record)
    : Type 0 where
  pub alone : list_any (λ j. is_current h j && has_key given (ordering_key given.setup.settings.order p r) j)
      (open_jobs h) ≡ false
  pub in_order : are_earlier_done given h p epoch r ≡ true

-- the same of the record at an offset, if the log has it
abbrev pub RecordIsOrderly : Given → List Event → ℕ → ℕ → Option Record → Type 0
RecordIsOrderly given h p epoch None = Unit {0}
RecordIsOrderly given h p epoch (Some r) = DispatchIsOrderly given h p epoch r

-- this event, if it is a dispatch, is in order
abbrev pub IsOrderlyAt : Given → Event → List Event → Type 0
IsOrderlyAt given (Dispatch ticket worker p o epoch attempt) h = RecordIsOrderly given h p epoch
    (record_at given p o)
IsOrderlyAt given _ h = Unit {0}

-- one ordering key runs singly, in offset order: so it is of each dispatch of the history
abbrev pub IsOrderly : Given → List Event → Type 0
IsOrderly given [] = Unit {0}
IsOrderly given (e ∷ h) = IsOrderlyAt given e h × IsOrderly given h
