-- The test of the history computes true.
use Rattle.std.proofs.Common.{reverse}
use Rattle.pc_model.specs.Rows.{plain_setup, row_given, first_path}
use Rattle.pc_model.proofs.Legal.{Decides-is_legal}
use Rattle.pc_model.proofs.RowsLegal.{first_path-is_legal}
use Rattle.pc_model.proofs.evidence.first_path_is_legal.Goals as goal

pub returns : goal.returns
returns c = (Decides-is_legal (row_given plain_setup) (reverse first_path)).0 first_path-is_legal
