-- The records so far are those that wait.
use Rattle.std.proofs.Common.{◌≡◌, map, take}
use Rattle.pc_batch_writer.specs.Writing.{plain_new}
use Rattle.pc_batch_writer.specs.Generator.{plain_drawn}
use Rattle.pc_batch_writer.proofs.generator.lend.Given as goal

abbrev pub invariant-loop-drawn : goal.invariant-loop-drawn
invariant-loop-drawn l = map plain_new l.records.items ≡ map plain_drawn (take l.drawn-index l.waiting)
