-- The test of each history computes true.
use Rattle.std.proofs.Common.{reverse}
use Rattle.pc_model.specs.Rows.{plain_setup, row_given, failed_commit, failed_commit_applied}
use Rattle.pc_model.proofs.Legal.{Decides-is_legal}
use Rattle.pc_model.proofs.RowsLegal.{failed_commit-is_legal, failed_commit_applied-is_legal}
use Rattle.pc_model.proofs.evidence.failed_commit_is_legal.Goals as goal

pub returns-clause-before : goal.returns-clause-before
returns-clause-before c = (Decides-is_legal (row_given plain_setup) (reverse failed_commit)).0 failed_commit-is_legal

pub returns-clause-applied : goal.returns-clause-applied
returns-clause-applied c = (Decides-is_legal (row_given plain_setup) (reverse failed_commit_applied)).0 failed_commit_applied-is_legal
