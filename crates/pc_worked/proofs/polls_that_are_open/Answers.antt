-- Each test computes.
use Rattle.std.proofs.Common.{◌≡◌, None, Some, refl}
use Rattle.pc_model.proofs.OnLiterals.{history_on_literals}
use Rattle.pc_model.specs.Rows.{row_given}
use Rattle.pc_model.specs.Run.{poll_number}
use Rattle.pc_worked.specs.Questions.{at, small_setup, small_steps}
use Rattle.pc_worked.proofs.polls_that_are_open.Goals as goal

begun : poll_number (row_given small_setup) (at small_steps 1) 0 ≡ Some 2
unfolding history_on_literals small_setup
begun = refl

full : poll_number (row_given small_setup) (at small_steps 2) 0 ≡ None
unfolding history_on_literals small_setup
full = refl

room : poll_number (row_given small_setup) (at small_steps 4) 0 ≡ Some 1
unfolding history_on_literals small_setup
room = refl

whole : poll_number (row_given small_setup) (at small_steps 6) 0 ≡ None
unfolding history_on_literals small_setup
whole = refl

pub returns-clause-begun : goal.returns-clause-begun
returns-clause-begun c = begun

pub returns-clause-full : goal.returns-clause-full
returns-clause-full c = full

pub returns-clause-room : goal.returns-clause-room
returns-clause-room c = room

pub returns-clause-whole : goal.returns-clause-whole
returns-clause-whole c = whole
