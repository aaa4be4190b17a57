-- Each test computes.
use Rattle.pc_model.proofs.RunRowsPaced.{long-bound, failing-bound}
use Rattle.pc_model.proofs.evidence.bounds_are_computed.Goals as goal

pub returns-clause-long : goal.returns-clause-long
returns-clause-long c = long-bound

pub returns-clause-undrained : goal.returns-clause-undrained
returns-clause-undrained c = failing-bound
