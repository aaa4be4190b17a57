-- The logs so far are added.
use Rattle.std.proofs.Common.{◌≡◌, ◌≤◌, ◌++◌, length}
use Rattle.std.specs.Vec.Iter.{into_iter_items, into_iter_len}
use Rattle.pc_broker_log.specs.Logs.{record_total}
use Rattle.pc_inputs.specs.Plan.{logs_with}
use Rattle.pc_inputs.proofs.plan.broker_logs.Given as goal

abbrev pub invariant-loop-log : goal.invariant-loop-log
invariant-loop-log l = record {
  split : l.yielded ++ into_iter_items l.log-iterator ≡ into_iter_items l.initial.log-iterator;
  left : into_iter_len l.log-iterator ≡ length (into_iter_items l.log-iterator);
  added : l.logs ≡ logs_with l.yielded;
  next : l.part ≡ length l.yielded;
  few : record_total (logs_with l.yielded) ≤ 1_000_000;
}
