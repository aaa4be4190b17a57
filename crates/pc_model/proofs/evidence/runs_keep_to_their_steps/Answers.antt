-- Each test computes.
use Rattle.pc_model.proofs.RunRowsPaced.{crash-is_run, undrained-is_run, cut-is_run, revocation-is_run}
use Rattle.pc_model.proofs.evidence.runs_keep_to_their_steps.Goals as goal

pub returns-clause-crash : goal.returns-clause-crash
returns-clause-crash c = crash-is_run

pub returns-clause-undrained : goal.returns-clause-undrained
returns-clause-undrained c = undrained-is_run

pub returns-clause-cut : goal.returns-clause-cut
returns-clause-cut c = cut-is_run

pub returns-clause-revocation : goal.returns-clause-revocation
returns-clause-revocation c = revocation-is_run
