-- The test of each neighbour computes false.
use Rattle.pc_model.proofs.RowsLegal.{neighbours-are_refused, retry_neighbours-are_refused, pressed_neighbours-are_refused}
use Rattle.pc_model.proofs.evidence.neighbours_are_refused.Goals as goal

pub returns-clause-plain : goal.returns-clause-plain
returns-clause-plain c = neighbours-are_refused

pub returns-clause-retry : goal.returns-clause-retry
returns-clause-retry c = retry_neighbours-are_refused

pub returns-clause-pressed : goal.returns-clause-pressed
returns-clause-pressed c = pressed_neighbours-are_refused
