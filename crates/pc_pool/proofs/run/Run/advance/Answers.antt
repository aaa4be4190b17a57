-- The steps that are due, and then a control turn.
use Rattle.pc_pool.proofs.StepLemmas.{goes-further}
use Rattle.pc_pool.proofs.run.Run.advance.Goals as goal

pub returns-clause-from : goal.returns-clause-from
returns-clause-from g c = goes-further g.T.Task.outcome g.L.Link.store g.L.Link.faults
    c.args.self.now c.apply_due.new.self c.control.new.self c.apply_due.ensures.from
    c.control.ensures.from
