-- The result is expected after a tick too.
use Rattle.std.proofs.Common.{Ok, Err, sym, subst}
use Rattle.pc_task.specs.Results.{finished_job}
use Rattle.pc_engine.specs.Engine.{given_of}
use Rattle.pc_engine.specs.Stand.{stand_of}
use Rattle.pc_drain.specs.declared.turn.Turn.{Turn}
use Rattle.pc_drain.specs.Turn.{Fails}
use Rattle.pc_drain.proofs.ResultLemmas.{fails-dropped, fails-settled, still-expects}
use Rattle.pc_drain.proofs.settling.settle_failure.Goals as goal

pub conclude-requires-clause-expected : goal.conclude-requires-clause-expected
conclude-requires-clause-expected g c = still-expects g.T.Task.outcome g.T.Task.same
    c.args.engine.now c.tick.new.self c.args.done c.args.now (Ok c.in-Ok.field-0)
    c.in-Ok.ensures.effect c.in-Ok.ensures.keeps c.requires.expected

pub returns-in-Ok-clause-turn : goal.returns-in-Ok-clause-turn
returns-in-Ok-clause-turn g c = λ code bad.
    subst (λ (t : Turn). Fails (given_of g.T.Task.outcome c.args.engine.now) c.args.now
    (finished_job c.args.done) code (stand_of g.L.Link.store g.L.Link.faults c.args.engine.now)
    (stand_of g.L.Link.store g.L.Link.faults c.conclude.new.engine) t) (sym c.conclude.ensures.turn)
    (fails-settled g.L.Link.store g.L.Link.faults g.T.Task.outcome c.args.engine.now c.tick.new.self
    c.conclude.new.engine c.args.now (finished_job c.args.done) code c.in-Ok.field-0
    c.args.done.outcome bad c.in-Ok.ensures.effect c.in-Ok.ensures.keeps c.conclude.ensures.settles)

pub returns-in-Err-clause-turn : goal.returns-in-Err-clause-turn
returns-in-Err-clause-turn g c = λ code bad.
    subst (λ (t : Turn). Fails (given_of g.T.Task.outcome c.args.engine.now) c.args.now
    (finished_job c.args.done) code (stand_of g.L.Link.store g.L.Link.faults c.args.engine.now)
    (stand_of g.L.Link.store g.L.Link.faults c.tick.new.self) t) (sym c.refused.ensures)
    (fails-dropped g.L.Link.store g.L.Link.faults g.T.Task.outcome c.args.engine.now c.tick.new.self
    c.tick.new.self c.args.now (finished_job c.args.done) code c.in-Err.fault c.in-Err.ensures.effect
    c.in-Err.ensures.keeps)
