-- The test of the history computes true.
use Rattle.std.proofs.Common.{reverse}
use Rattle.pc_model.specs.Rows.{plain_setup, row_given, crash_and_resume}
use Rattle.pc_model.proofs.Legal.{Decides-is_legal}
use Rattle.pc_model.proofs.RowsLegal.{crash_and_resume-is_legal}
use Rattle.pc_model.proofs.evidence.crash_and_resume_is_legal.Goals as goal

pub returns : goal.returns
returns c = (Decides-is_legal (row_given plain_setup) (reverse crash_and_resume)).0 crash_and_resume-is_legal
