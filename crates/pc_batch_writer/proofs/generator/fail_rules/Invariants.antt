-- The rules so far and those of the numbers to come are all.
use Rattle.std.proofs.Common.{◌≡◌, ◌++◌, ◌-◌}
use Rattle.pc_batch_writer.specs.Generator.{numbers_from, fails_from}
use Rattle.pc_batch_writer.proofs.generator.fail_rules.Given as goal

abbrev pub invariant-loop-i : goal.invariant-loop-i
invariant-loop-i l = l.fails.items ++ fails_from l.i (numbers_from (l.fn.records - l.i) l.number) ≡ fails_from 0 (numbers_from l.fn.records l.fn.seed)
