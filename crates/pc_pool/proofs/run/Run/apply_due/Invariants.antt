-- The heading stays and the history goes on, and each step leaves fewer.
use Rattle.std.proofs.Common.{length}
use Rattle.pc_pool.specs.Run.{GoesFrom, steps_left}
use Rattle.pc_pool.proofs.run.Run.apply_due.Given as goal

abbrev pub invariant-loop-self : goal.invariant-loop-self
invariant-loop-self g l = GoesFrom g.T.Task.outcome g.L.Link.store g.L.Link.faults l.initial.self l.self

abbrev pub decreases-loop-self : goal.decreases-loop-self
decreases-loop-self g l = steps_left (length l.self.steps) l.self.used l.self.ended
