-- The test of the history computes true.
use Rattle.std.proofs.Common.{reverse}
use Rattle.pc_model.specs.Rows.{plain_setup, row_given, drain_and_close}
use Rattle.pc_model.proofs.Legal.{Decides-is_legal}
use Rattle.pc_model.proofs.RowsLegal.{drain_and_close-is_legal}
use Rattle.pc_model.proofs.evidence.drain_and_close_is_legal.Goals as goal

pub returns : goal.returns
returns c = (Decides-is_legal (row_given plain_setup) (reverse drain_and_close)).0 drain_and_close-is_legal
