-- The heading stays, and the history goes on.
use Rattle.pc_pool.specs.Run.{GoesFrom}
use Rattle.pc_pool.proofs.run.Run.turn.Given as goal

abbrev pub invariant-loop : goal.invariant-loop
invariant-loop g l = GoesFrom g.T.Task.outcome g.L.Link.store g.L.Link.faults l.initial.self l.self
