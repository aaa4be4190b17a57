-- Each test computes.
use Rattle.std.proofs.Common.{◌≡◌, true, reverse, refl}
use Rattle.pc_model.proofs.OnLiterals.{history_on_literals}
use Rattle.pc_model.specs.Test.{is_legal}
use Rattle.pc_model.proofs.Legal.{Decides-is_legal}
use Rattle.pc_model.specs.Rows.{plain_setup, are_refused}
use Rattle.pc_worked.specs.Histories.{started, start_with_a_map, start_neighbours}
use Rattle.pc_worked.proofs.start_with_a_map.Goals as goal

legal : is_legal started (reverse start_with_a_map) ≡ true
unfolding history_on_literals started plain_setup
legal = refl

neighbours : are_refused started start_neighbours ≡ true
unfolding history_on_literals started plain_setup
neighbours = refl

pub returns-clause-legal : goal.returns-clause-legal
returns-clause-legal c = (Decides-is_legal started (reverse start_with_a_map)).0 legal

pub returns-clause-neighbours : goal.returns-clause-neighbours
returns-clause-neighbours c = neighbours
