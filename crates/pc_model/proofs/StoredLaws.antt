-- What one more event changes of what may be stored for a part, of its last commit's size and of
-- what is not stored yet.
use Rattle.std.proofs.Common.{◌≡◌, ℕ, ◌+◌, true, false, List, [], ◌∷◌, ◌++◌, Some, None}
use Rattle.pc_model.specs.declared.event.Event.{Event}
use Rattle.pc_model.specs.declared.event.Event.TheVariants.{Assign, Commit as Committed, CommitFailed, Success}
use Rattle.pc_model.specs.Given.{Given}
use Rattle.pc_model.specs.Jobs.{Job, job_of}
use Rattle.pc_model.specs.Stored.{may_store}
use Rattle.pc_model.specs.Pressure.{last_size}
use Rattle.pc_model.specs.Run.{new_successes, has_unstored_success}
use Rattle.pc_model.proofs.ListLemmas.{same_number}

module _ (given : Given) (h : List Event) (p position : ℕ) (text : List ℕ) where
  -- an assignment and a stored commit leave that commit alone
  pub may_store-assign : (epoch : ℕ) → may_store given (Assign p epoch position text ∷ h) p ≡ record
      { position = position; map = text } ∷ []
  may_store-assign epoch = simp (same_number p)

  pub may_store-commit : (size : ℕ) → may_store given (Committed p position text size ∷ h) p
      ≡ record { position = position; map = text } ∷ []
  may_store-commit size = simp (same_number p)

  -- a failed commit comes behind the others
  pub may_store-commit_failed : (size : ℕ) →
      may_store given (CommitFailed p position text size ∷ h) p ≡ may_store given h p ++ record
      { position = position; map = text } ∷ []
  may_store-commit_failed size = simp (same_number p)

module _ (h : List Event) (p position : ℕ) (text : List ℕ) where
  last_size-assign : (epoch : ℕ) → last_size (Assign p epoch position text ∷ h) p ≡ None
  last_size-assign epoch = simp (same_number p)

  last_size-commit : (size : ℕ) → last_size (Committed p position text size ∷ h) p ≡ Some size
  last_size-commit size = simp (same_number p)

  last_size-commit_failed : (size : ℕ) → last_size (CommitFailed p position text size ∷ h) p
      ≡ Some size
  last_size-commit_failed size = simp (same_number p)

  new_successes-assign : (epoch e : ℕ) → new_successes (Assign p epoch position text ∷ h) p e
      ≡ 0
  new_successes-assign epoch e = simp (same_number p)

  new_successes-commit : (size e : ℕ) → new_successes (Committed p position text size ∷ h) p e
      ≡ 0
  new_successes-commit size e = simp (same_number p)

  new_successes-commit_failed : (size e : ℕ) → new_successes
      (CommitFailed p position text size ∷ h) p e ≡ 0
  new_successes-commit_failed size e = simp (same_number p)

  has_unstored_success-assign : (epoch e : ℕ) → has_unstored_success
      (Assign p epoch position text ∷ h) p e ≡ false
  has_unstored_success-assign epoch e = simp (same_number p)

  has_unstored_success-commit : (size e : ℕ) → has_unstored_success
      (Committed p position text size ∷ h) p e ≡ false
  has_unstored_success-commit size e = simp (same_number p)

-- a success of a job in its epoch is one more that is not stored yet
module _ (h : List Event) (t : ℕ) (answer : List ℕ) (j : Job) (of : job_of h t ≡ Some j) where
  new_successes-success : new_successes (Success t answer ∷ h) j.part j.epoch
      ≡ new_successes h j.part j.epoch + 1
  new_successes-success = rw of (simp (same_number j.part, same_number j.epoch))

  has_unstored_success-success : has_unstored_success (Success t answer ∷ h) j.part j.epoch
      ≡ true
  has_unstored_success-success = rw of (simp (same_number j.part, same_number j.epoch))
