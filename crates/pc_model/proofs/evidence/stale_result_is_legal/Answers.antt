-- The test of the history computes true.
use Rattle.std.proofs.Common.{reverse}
use Rattle.pc_model.specs.Rows.{plain_setup, row_given, stale_result}
use Rattle.pc_model.proofs.Legal.{Decides-is_legal}
use Rattle.pc_model.proofs.RowsLegal.{stale_result-is_legal}
use Rattle.pc_model.proofs.evidence.stale_result_is_legal.Goals as goal

pub returns : goal.returns
returns c = (Decides-is_legal (row_given plain_setup) (reverse stale_result)).0 stale_result-is_legal
