use Rattle.std.proofs.Common.{length}
use Rattle.pc_state_lock.proofs.tests.+fn-run-join_mut+arg2+fn-run-join_mut+arg3+run.Given as goal

abbrev pub decreases-join_mut+arg2 : goal.decreases-join_mut+arg2
decreases-join_mut+arg2 g l = length l.left.now

abbrev pub decreases-join_mut+arg3 : goal.decreases-join_mut+arg3
decreases-join_mut+arg3 g l = length l.right.now

abbrev pub decreases-run : goal.decreases-run
decreases-run g l = length l.workers.now
