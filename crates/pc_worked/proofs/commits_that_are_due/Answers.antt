-- Each test computes.
use Rattle.std.proofs.Common.{◌≡◌, true, false, refl}
use Rattle.pc_model.proofs.OnLiterals.{history_on_literals}
use Rattle.pc_model.specs.Rows.{row_given}
use Rattle.pc_model.specs.Run.{is_commit_due, is_unsaved}
use Rattle.pc_worked.specs.Questions.{at, small_setup, small_steps}
use Rattle.pc_worked.proofs.commits_that_are_due.Goals as goal

out : is_commit_due (row_given small_setup) (at small_steps 3) 0 ≡ false
unfolding history_on_literals small_setup
out = refl

succeeded : is_commit_due (row_given small_setup) (at small_steps 4) 0 ≡ true
unfolding history_on_literals small_setup
succeeded = refl

committed : is_commit_due (row_given small_setup) (at small_steps 5) 0 ≡ false
unfolding history_on_literals small_setup
committed = refl

begun : is_unsaved (row_given small_setup) (at small_steps 1) 0 ≡ false
unfolding history_on_literals small_setup
begun = refl

unsaved : is_unsaved (row_given small_setup) (at small_steps 4) 0 ≡ true
unfolding history_on_literals small_setup
unsaved = refl

saved : is_unsaved (row_given small_setup) (at small_steps 5) 0 ≡ false
unfolding history_on_literals small_setup
saved = refl

pub returns-clause-out : goal.returns-clause-out
returns-clause-out c = out

pub returns-clause-succeeded : goal.returns-clause-succeeded
returns-clause-succeeded c = succeeded

pub returns-clause-committed : goal.returns-clause-committed
returns-clause-committed c = committed

pub returns-clause-begun : goal.returns-clause-begun
returns-clause-begun c = begun

pub returns-clause-unsaved : goal.returns-clause-unsaved
returns-clause-unsaved c = unsaved

pub returns-clause-saved : goal.returns-clause-saved
returns-clause-saved c = saved
