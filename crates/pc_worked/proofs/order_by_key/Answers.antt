-- Each test computes.
use Rattle.std.proofs.Common.{◌≡◌, true, reverse, refl}
use Rattle.pc_model.proofs.OnLiterals.{history_on_literals}
use Rattle.pc_model.specs.Test.{is_legal}
use Rattle.pc_model.proofs.Legal.{Decides-is_legal}
use Rattle.pc_model.specs.Rows.{are_refused}
use Rattle.pc_worked.specs.Histories.{by_key, key_order, key_neighbours, key_setup}
use Rattle.pc_worked.proofs.order_by_key.Goals as goal

legal : is_legal by_key (reverse key_order) ≡ true
unfolding history_on_literals by_key key_setup
legal = refl

neighbours : are_refused by_key key_neighbours ≡ true
unfolding history_on_literals by_key key_setup
neighbours = refl

pub returns-clause-legal : goal.returns-clause-legal
returns-clause-legal c = (Decides-is_legal by_key (reverse key_order)).0 legal

pub returns-clause-neighbours : goal.returns-clause-neighbours
returns-clause-neighbours c = neighbours
