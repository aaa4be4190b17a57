-- Each test computes.
use Rattle.std.proofs.Common.{◌≡◌, None, Some, refl}
use Rattle.pc_model.proofs.OnLiterals.{history_on_literals}
use Rattle.pc_model.specs.Rows.{row_given}
use Rattle.pc_model.specs.Run.{next_time}
use Rattle.pc_worked.specs.Questions.{at, spent_setup, spent_steps}
use Rattle.pc_worked.proofs.times_to_wait_for.Goals as goal

polled : next_time (row_given spent_setup) (at spent_steps 2) ≡ None
unfolding history_on_literals spent_setup
polled = refl

failed : next_time (row_given spent_setup) (at spent_steps 4) ≡ Some 100
unfolding history_on_literals spent_setup
failed = refl

come : next_time (row_given spent_setup) (at spent_steps 5) ≡ None
unfolding history_on_literals spent_setup
come = refl

spent : next_time (row_given spent_setup) (at spent_steps 7) ≡ None
unfolding history_on_literals spent_setup
spent = refl

pub returns-clause-polled : goal.returns-clause-polled
returns-clause-polled c = polled

pub returns-clause-failed : goal.returns-clause-failed
returns-clause-failed c = failed

pub returns-clause-come : goal.returns-clause-come
returns-clause-come c = come

pub returns-clause-spent : goal.returns-clause-spent
returns-clause-spent c = spent
