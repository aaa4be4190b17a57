-- The test of the history computes true.
use Rattle.std.proofs.Common.{reverse}
use Rattle.pc_model.specs.Rows.{retry_setup, row_given, retry}
use Rattle.pc_model.proofs.Legal.{Decides-is_legal}
use Rattle.pc_model.proofs.RowsLegal.{retry-is_legal}
use Rattle.pc_model.proofs.evidence.retry_is_legal.Goals as goal

pub returns : goal.returns
returns c = (Decides-is_legal (row_given retry_setup) (reverse retry)).0 retry-is_legal
