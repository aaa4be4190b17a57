-- What is written and what comes of those that wait and of the numbers to come is the log.
use Rattle.std.proofs.Common.{◌≡◌, ◌<◌, ◌++◌, ◌-◌, map, vec_len}
use Rattle.pc_batch_writer.specs.Generator.{numbers_from, log_from, generated_log, plain_drawn}
use Rattle.pc_batch_writer.proofs.generator.part_log.Given as goal

abbrev pub invariant-loop-i : goal.invariant-loop-i
invariant-loop-i l = record {
  text : l.log.items ++ log_from l.fn.part l.i (map plain_drawn l.waiting.items) (numbers_from (l.fn.records - l.i) l.number) ≡ generated_log l.fn.seed l.fn.records l.fn.part;
  few : vec_len l.waiting < 100;
}
