-- Each block does what its step says.
use Rattle.pc_run_laws.proofs.HeldBySteps.{held-cut, held-drained, held-whole}
use Rattle.pc_run_laws.proofs.held_goes_by_the_steps.Goals as goal

pub returns-clause-whole : goal.returns-clause-whole
returns-clause-whole c = held-whole

pub returns-clause-cut_short : goal.returns-clause-cut_short
returns-clause-cut_short c = held-cut

pub returns-clause-drained : goal.returns-clause-drained
returns-clause-drained c = held-drained
