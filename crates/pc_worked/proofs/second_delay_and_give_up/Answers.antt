-- Each test computes.
use Rattle.std.proofs.Common.{◌≡◌, true, reverse, refl}
use Rattle.pc_model.proofs.OnLiterals.{history_on_literals}
use Rattle.pc_model.specs.Test.{is_legal}
use Rattle.pc_model.proofs.Legal.{Decides-is_legal}
use Rattle.pc_model.specs.Rows.{row_given, are_refused}
use Rattle.pc_worked.specs.Histories.{delays_setup, second_delay, delay_neighbours}
use Rattle.pc_worked.proofs.second_delay_and_give_up.Goals as goal

legal : is_legal (row_given delays_setup) (reverse second_delay) ≡ true
unfolding history_on_literals delays_setup
legal = refl

neighbours : are_refused (row_given delays_setup) delay_neighbours ≡ true
unfolding history_on_literals delays_setup
neighbours = refl

pub returns-clause-legal : goal.returns-clause-legal
returns-clause-legal c = (Decides-is_legal (row_given delays_setup) (reverse second_delay)).0 legal

pub returns-clause-neighbours : goal.returns-clause-neighbours
returns-clause-neighbours c = neighbours
