-- What one more event changes of the clock and of a record's failures.
use Rattle.std.proofs.Common.{◌≡◌, ℕ, ◌+◌, Bool, true, false, ◌&&◌, ◌==◌, List, ◌∷◌, Some, None, refl, unwrap_or}
use Rattle.std.specs.Prelude.{if◌then◌else◌}
use Rattle.pc_model.specs.declared.event.Event.{Event}
use Rattle.pc_model.specs.declared.event.Event.TheVariants.{Failure, Tick}
use Rattle.pc_model.specs.Jobs.{Job, job_of}
use Rattle.pc_model.specs.Retry.{count_one, now_of, failures_in, ready_in}
use Rattle.pc_model.proofs.ListLemmas.{same_number}

now_of-tick : (h : List Event) (now : ℕ) → now_of (Tick now ∷ h) ≡ now
now_of-tick h now = refl

count_one-cond : (b : Bool) (x n : ℕ) → count_one (if b then Some x else None) n
    ≡ (if b then n + 1 else n)
count_one-cond true x n = refl
count_one-cond false x n = refl

unwrap_or-cond : (b : Bool) (x d : ℕ) → unwrap_or (if b then Some x else None) d
    ≡ (if b then x else d)
unwrap_or-cond true x d = refl
unwrap_or-cond false x d = refl

module _ (h : List Event) (t code ready : ℕ) (j : Job) (of : job_of h t ≡ Some j) where
  -- the job's offset failed once more in the job's epoch, and waits until the ready time
  pub failures_in-failure : (e o : ℕ) → failures_in (Failure t code ready ∷ h) j.part e o
      ≡ (if (j.epoch == e) && (j.offset == o) then failures_in h j.part e o + 1
      else failures_in h j.part e o)
  failures_in-failure e o = rw of
      (simp (same_number j.part)
      (count_one-cond ((j.epoch == e) && (j.offset == o)) ready (failures_in h j.part e o)))

  ready_in-failure : (e o : ℕ) → ready_in (Failure t code ready ∷ h) j.part e o
      ≡ (if (j.epoch == e) && (j.offset == o) then ready else ready_in h j.part e o)
  ready_in-failure e o = rw of
      (simp (same_number j.part)
      (unwrap_or-cond ((j.epoch == e) && (j.offset == o)) ready (ready_in h j.part e o)))
