-- The logs so far.
use Rattle.std.proofs.Common.{◌≡◌, ◌<◌, ℕ, Some, option_map, slice_get, vec_len}
use Rattle.pc_batch_writer.specs.Generator.{generated_log}
use Rattle.pc_batch_writer.proofs.generator.generate.Given as goal

abbrev pub invariant-loop-part : goal.invariant-loop-part
invariant-loop-part l = record {
  many : vec_len l.logs ≡ l.part;
  each : (p : ℕ) → p < l.part → option_map (λ log. log.items) (slice_get l.logs.items p) ≡ Some (generated_log l.seed l.records p);
}
