-- Each step goes on from those before it.
use Rattle.pc_pool.proofs.StepLemmas.{goes-further}
use Rattle.pc_pool.proofs.run.Run.apply_due.Goals as goal

pub loop-self-preserved : goal.loop-self-preserved
loop-self-preserved g c = goes-further g.T.Task.outcome g.L.Link.store g.L.Link.faults
    c.args.self.now c.loop-self.self c.apply_next.new.self c.loop-self.invariant
    c.apply_next.ensures.from
