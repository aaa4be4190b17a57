-- Each test computes.
use Rattle.std.proofs.Common.{◌≡◌, true, reverse, refl}
use Rattle.pc_model.proofs.OnLiterals.{history_on_literals}
use Rattle.pc_model.specs.Test.{is_legal}
use Rattle.pc_model.proofs.Legal.{Decides-is_legal}
use Rattle.pc_model.specs.Rows.{plain_setup, are_refused}
use Rattle.pc_worked.specs.Histories.{by_record, record_order, record_neighbours}
use Rattle.pc_worked.proofs.no_order.Goals as goal

legal : is_legal by_record (reverse record_order) ≡ true
unfolding history_on_literals by_record plain_setup
legal = refl

neighbours : are_refused by_record record_neighbours ≡ true
unfolding history_on_literals by_record plain_setup
neighbours = refl

pub returns-clause-legal : goal.returns-clause-legal
returns-clause-legal c = (Decides-is_legal by_record (reverse record_order)).0 legal

pub returns-clause-neighbours : goal.returns-clause-neighbours
returns-clause-neighbours c = neighbours
