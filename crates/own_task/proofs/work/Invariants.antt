-- The engine is given what it was given at the start.
use Rattle.std.proofs.Common.{◌≡◌}
use Rattle.own_task.specs.Consume.{given_in}
use Rattle.own_task.proofs.work.Given as goal

abbrev pub invariant-loop : goal.invariant-loop
invariant-loop l = given_in l.engine ≡ given_in l.fn.engine
