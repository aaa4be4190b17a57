-- The block keeps to the steps and to the pace.
use Rattle.pc_engine.specs.Engine.{given_of}
use Rattle.pc_engine.specs.Stand.{stand_of}
use Rattle.pc_rebalance.proofs.BlockLemmas.{keeps-applied}
use Rattle.pc_rebalance.proofs.OutsideLemmas.{applied-outside}
use Rattle.pc_rebalance.proofs.RefusalLemmas.{applied-cause}
use Rattle.pc_rebalance.proofs.StopLemmas.{applied-adds, applied-full, applied-stops}
use Rattle.pc_rebalance.proofs.steps.apply.Goals as goal

pub returns-clause-follows : goal.returns-clause-follows
returns-clause-follows g c = (keeps-applied (g.L.Link.is_told c.args.engine.now.link)
    (given_of g.T.Task.outcome c.args.engine.now) c.args.step.now.act
    (stand_of g.L.Link.store g.L.Link.faults c.args.engine.now)
    (stand_of g.L.Link.store g.L.Link.faults c.perform.new.engine) c.perform.result
    c.perform.ensures.block).follow

pub returns-clause-whole : goal.returns-clause-whole
returns-clause-whole g c = (keeps-applied (g.L.Link.is_told c.args.engine.now.link)
    (given_of g.T.Task.outcome c.args.engine.now) c.args.step.now.act
    (stand_of g.L.Link.store g.L.Link.faults c.args.engine.now)
    (stand_of g.L.Link.store g.L.Link.faults c.perform.new.engine) c.perform.result
    c.perform.ensures.block).whole

pub returns-clause-paced : goal.returns-clause-paced
returns-clause-paced g c = (keeps-applied (g.L.Link.is_told c.args.engine.now.link)
    (given_of g.T.Task.outcome c.args.engine.now) c.args.step.now.act
    (stand_of g.L.Link.store g.L.Link.faults c.args.engine.now)
    (stand_of g.L.Link.store g.L.Link.faults c.perform.new.engine) c.perform.result
    c.perform.ensures.block).paced

pub returns-clause-any : goal.returns-clause-any
returns-clause-any g c = (keeps-applied (g.L.Link.is_told c.args.engine.now.link)
    (given_of g.T.Task.outcome c.args.engine.now) c.args.step.now.act
    (stand_of g.L.Link.store g.L.Link.faults c.args.engine.now)
    (stand_of g.L.Link.store g.L.Link.faults c.perform.new.engine) c.perform.result
    c.perform.ensures.block).goes_on

pub returns-clause-cause : goal.returns-clause-cause
returns-clause-cause g c = applied-cause (g.L.Link.is_told c.args.engine.now.link)
    (given_of g.T.Task.outcome c.args.engine.now) c.args.step.now.act
    (stand_of g.L.Link.store g.L.Link.faults c.args.engine.now)
    (stand_of g.L.Link.store g.L.Link.faults c.perform.new.engine) c.perform.result
    c.perform.ensures.block

pub returns-clause-refusal : goal.returns-clause-refusal
returns-clause-refusal g c = applied-outside (g.L.Link.is_told c.args.engine.now.link)
    (given_of g.T.Task.outcome c.args.engine.now) c.args.step.now.act
    (stand_of g.L.Link.store g.L.Link.faults c.args.engine.now)
    (stand_of g.L.Link.store g.L.Link.faults c.perform.new.engine) c.perform.result
    c.perform.ensures.block

pub returns-clause-adds : goal.returns-clause-adds
returns-clause-adds g c = applied-adds (g.L.Link.is_told c.args.engine.now.link)
    (given_of g.T.Task.outcome c.args.engine.now) c.args.step.now.act
    (stand_of g.L.Link.store g.L.Link.faults c.args.engine.now)
    (stand_of g.L.Link.store g.L.Link.faults c.perform.new.engine) c.perform.result
    c.perform.ensures.block

pub returns-clause-stops : goal.returns-clause-stops
returns-clause-stops g c = applied-stops (g.L.Link.is_told c.args.engine.now.link)
    (given_of g.T.Task.outcome c.args.engine.now) c.args.step.now.act
    (stand_of g.L.Link.store g.L.Link.faults c.args.engine.now)
    (stand_of g.L.Link.store g.L.Link.faults c.perform.new.engine) c.perform.result
    c.perform.ensures.block

pub returns-clause-full : goal.returns-clause-full
returns-clause-full g c = applied-full (g.L.Link.is_told c.args.engine.now.link)
    (given_of g.T.Task.outcome c.args.engine.now) c.args.step.now.act
    (stand_of g.L.Link.store g.L.Link.faults c.args.engine.now)
    (stand_of g.L.Link.store g.L.Link.faults c.perform.new.engine) c.perform.result
    c.perform.ensures.block
