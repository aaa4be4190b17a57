-- Each test computes.
use Rattle.pc_model.proofs.RunRowsPaced.{crash-are_strays, failing-are_strays, cut-are_strays, revoke-are_strays}
use Rattle.pc_model.proofs.evidence.neighbours_of_runs_are_strays.Goals as goal

pub returns-clause-crash : goal.returns-clause-crash
returns-clause-crash c = crash-are_strays

pub returns-clause-undrained : goal.returns-clause-undrained
returns-clause-undrained c = failing-are_strays

pub returns-clause-cut : goal.returns-clause-cut
returns-clause-cut c = cut-are_strays

pub returns-clause-revocation : goal.returns-clause-revocation
returns-clause-revocation c = revoke-are_strays
