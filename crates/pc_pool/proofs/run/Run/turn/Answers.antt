-- Each control turn goes on from those before it.
use Rattle.std.proofs.Common.{◌<◌, ℕ, ap, sym, subst}
use Rattle.pc_state_lock.specs.Heading.{Heading}
use Rattle.pc_pool.proofs.StepLemmas.{goes-further}
use Rattle.pc_pool.proofs.run.Run.turn.Goals as goal

pub loop-preserved : goal.loop-preserved
loop-preserved g c = goes-further g.T.Task.outcome g.L.Link.store g.L.Link.faults c.settle_handed.new.self c.loop.self
    c.advance.new.self c.loop.invariant c.advance.ensures.from

pub take-requires-clause-worker : goal.take-requires-clause-worker
take-requires-clause-worker g c =
    let from = goes-further g.T.Task.outcome g.L.Link.store g.L.Link.faults c.args.self.now c.settle_handed.new.self
    c.advance.new.self c.settle_handed.ensures (goes-further g.T.Task.outcome g.L.Link.store g.L.Link.faults c.settle_handed.new.self c.loop.self
    c.advance.new.self c.loop.invariant c.advance.ensures.from) in
    subst (λ (n : ℕ). c.args.worker < n) (sym (ap (λ (h : Heading). h.workers) from.heading)) c.requires

pub returns-in-Idle : goal.returns-in-Idle
returns-in-Idle g c = goes-further g.T.Task.outcome g.L.Link.store g.L.Link.faults c.args.self.now c.advance.new.self
    c.take.new.self (goes-further g.T.Task.outcome g.L.Link.store g.L.Link.faults c.args.self.now c.settle_handed.new.self
    c.advance.new.self c.settle_handed.ensures (goes-further g.T.Task.outcome g.L.Link.store g.L.Link.faults c.settle_handed.new.self c.loop.self
    c.advance.new.self c.loop.invariant c.advance.ensures.from)) c.take.ensures

pub returns-in-Ended : goal.returns-in-Ended
returns-in-Ended g c = goes-further g.T.Task.outcome g.L.Link.store g.L.Link.faults c.args.self.now c.settle_handed.new.self
    c.advance.new.self c.settle_handed.ensures (goes-further g.T.Task.outcome g.L.Link.store g.L.Link.faults c.settle_handed.new.self c.loop.self
    c.advance.new.self c.loop.invariant c.advance.ensures.from)
