-- Each test computes.
use Rattle.std.proofs.Common.{◌≡◌, true, false, refl}
use Rattle.pc_model.proofs.OnLiterals.{history_on_literals}
use Rattle.pc_model.specs.Rows.{row_given}
use Rattle.pc_model.specs.Run.{is_given_up, is_at_rest}
use Rattle.pc_worked.specs.Questions.{at, first_record, second_record, spent_setup, spent_steps}
use Rattle.pc_worked.proofs.records_that_are_given_up.Goals as goal

polled : is_given_up (row_given spent_setup) (at spent_steps 2) 0 second_record ≡ false
unfolding history_on_literals spent_setup
polled = refl

failed : is_given_up (row_given spent_setup) (at spent_steps 4) 0 first_record ≡ false
unfolding history_on_literals spent_setup
failed = refl

spent : is_given_up (row_given spent_setup) (at spent_steps 7) 0 first_record ≡ true
unfolding history_on_literals spent_setup
spent = refl

behind : is_given_up (row_given spent_setup) (at spent_steps 7) 0 second_record ≡ true
unfolding history_on_literals spent_setup
behind = refl

begun : is_at_rest (row_given spent_setup) (at spent_steps 1) ≡ false
unfolding history_on_literals spent_setup
begun = refl

out : is_at_rest (row_given spent_setup) (at spent_steps 6) ≡ false
unfolding history_on_literals spent_setup
out = refl

rests : is_at_rest (row_given spent_setup) (at spent_steps 7) ≡ true
unfolding history_on_literals spent_setup
rests = refl

pub returns-clause-polled : goal.returns-clause-polled
returns-clause-polled c = polled

pub returns-clause-failed : goal.returns-clause-failed
returns-clause-failed c = failed

pub returns-clause-spent : goal.returns-clause-spent
returns-clause-spent c = spent

pub returns-clause-behind : goal.returns-clause-behind
returns-clause-behind c = behind

pub returns-clause-begun : goal.returns-clause-begun
returns-clause-begun c = begun

pub returns-clause-out : goal.returns-clause-out
returns-clause-out c = out

pub returns-clause-rests : goal.returns-clause-rests
returns-clause-rests c = rests
