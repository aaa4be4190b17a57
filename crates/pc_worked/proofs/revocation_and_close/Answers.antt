-- Each test computes.
use Rattle.std.proofs.Common.{◌≡◌, true, reverse, refl}
use Rattle.pc_model.proofs.OnLiterals.{history_on_literals}
use Rattle.pc_model.specs.Test.{is_legal}
use Rattle.pc_model.proofs.Legal.{Decides-is_legal}
use Rattle.pc_model.specs.Rows.{plain_setup, row_given, are_refused}
use Rattle.pc_worked.specs.Histories.{revocation, revocation_neighbours}
use Rattle.pc_worked.proofs.revocation_and_close.Goals as goal

legal : is_legal (row_given plain_setup) (reverse revocation) ≡ true
unfolding history_on_literals plain_setup
legal = refl

neighbours : are_refused (row_given plain_setup) revocation_neighbours ≡ true
unfolding history_on_literals plain_setup
neighbours = refl

pub returns-clause-legal : goal.returns-clause-legal
returns-clause-legal c = (Decides-is_legal (row_given plain_setup) (reverse revocation)).0 legal

pub returns-clause-neighbours : goal.returns-clause-neighbours
returns-clause-neighbours c = neighbours
