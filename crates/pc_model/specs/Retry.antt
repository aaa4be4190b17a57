-- The clock, failures, and when a record may run again.
use Rattle.std.specs.Prelude.{ℕ, ◌+◌, ◌-◌, ◌^◌, min, if◌then◌else◌, List, [], ◌∷◌, length, Option, Some, None, unwrap_or, slice_index}
use Rattle.pc_model.specs.declared.event.Event.{Event}
use Rattle.pc_model.specs.declared.event.Event.TheVariants.{Failure, Tick}
use Rattle.pc_model.specs.Jobs.{job_of}
use Rattle.pc_model.specs.Epochs.{epoch_of}
use Rattle.pc_model.specs.Known.{is_job_at}

-- the number of this event, if it is a tick
abbrev pub tick_in : Event → Option ℕ
tick_in (Tick now) = Some now
tick_in _ = None

-- the number of the last tick, or 0
abbrev pub now_of : List Event → ℕ
now_of [] = 0
now_of (e ∷ h) = unwrap_or (tick_in e) (now_of h)

-- the ready time of this event, if it is a failure of the offset in the epoch, and follows the
-- history
abbrev pub failure_in : Event → List Event → ℕ → ℕ → ℕ → Option ℕ
failure_in (Failure t code ready) h p e o = if is_job_at (job_of h t) p e o then Some ready
    else None
failure_in _ h p e o = None

-- one more where there is something
abbrev pub count_one : Option ℕ → ℕ → ℕ
count_one None n = n
count_one (Some x) n = n + 1

-- how often the offset failed in the epoch
abbrev pub failures_in : List Event → ℕ → ℕ → ℕ → ℕ
failures_in [] p e o = 0
failures_in (v ∷ h) p e o = count_one (failure_in v h p e o) (failures_in h p e o)

-- the ready time of the offset's last failure in the epoch, or 0
abbrev pub ready_in : List Event → ℕ → ℕ → ℕ → ℕ
ready_in [] p e o = 0
ready_in (v ∷ h) p e o = unwrap_or (failure_in v h p e o) (ready_in h p e o)

-- the same in the part's present epoch
abbrev pub failures_of : List Event → ℕ → ℕ → ℕ
failures_of h p o = failures_in h p (epoch_of h p) o

abbrev pub ready_of : List Event → ℕ → ℕ → ℕ
ready_of h p o = ready_in h p (epoch_of h p) o

-- the wait after the n-th failure, counted from 1: the n-th delay, or the last where there are
-- fewer
abbrev pub delay_after : List ℕ → ℕ → ℕ
delay_after delays n = slice_index delays (min n (length delays) - 1)

-- when a record may run again after its n-th failure: now plus the wait, or 2^64 - 1 where the sum
-- passes that
abbrev pub ready_after : List ℕ → ℕ → ℕ → ℕ
ready_after delays n now = min (now + delay_after delays n) (2 ^ 64 - 1)
