-- Each failure is that of the next attempt.
use Rattle.pc_run_laws.proofs.FinishedLaw.{failures-bad}
use Rattle.pc_run_laws.proofs.failures_are_of_bad_attempts.Goals as goal

pub returns : goal.returns
returns c = failures-bad
