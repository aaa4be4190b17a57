-- The test of the history computes true.
use Rattle.std.proofs.Common.{reverse}
use Rattle.pc_model.specs.Rows.{pressed_setup, row_given, pressure}
use Rattle.pc_model.proofs.Legal.{Decides-is_legal}
use Rattle.pc_model.proofs.RowsLegal.{pressure-is_legal}
use Rattle.pc_model.proofs.evidence.pressure_is_legal.Goals as goal

pub returns : goal.returns
returns c = (Decides-is_legal (row_given pressed_setup) (reverse pressure)).0 pressure-is_legal
