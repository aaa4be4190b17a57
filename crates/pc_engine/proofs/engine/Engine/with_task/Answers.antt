-- Without events each part is unheld, and the link keeps what was given.
use Rattle.std.proofs.Common.{refl, []}
use Rattle.pc_offset_client.specs.Client.{kept_for}
use Rattle.pc_engine.specs.Engine.{given_by}
use Rattle.pc_engine.proofs.EngineEvents.{IsEngine-start, start-given}
use Rattle.pc_engine.proofs.engine.Engine.with_task.Goals as goal

pub invariant_of-result : goal.invariant_of-result
invariant_of-result g c =
    rw (c.new-2.ensures.empty, c.new-3.ensures) (IsEngine-start c.args.setup.now c.args.logs.now
    (g.L.Link.is_told c.args.link) (g.T.Task.outcome c.args.task.now) (kept_for (g.L.Link.store c.args.link)) c.in-Ok.state
    c.in-Ok.ensures.knows c.new-2.result.room)

pub returns-clause-given : goal.returns-clause-given
returns-clause-given g c = rw (c.new-2.ensures.empty, c.new-3.ensures)
    (start-given c.args.setup.now c.args.logs.now
    (g.L.Link.is_told c.args.link) (g.T.Task.outcome c.args.task.now) (kept_for (g.L.Link.store c.args.link)) c.in-Ok.state
    c.in-Ok.ensures.knows)

pub returns-in_default-clause-legal : goal.returns-in_default-clause-legal
returns-in_default-clause-legal g c = c.new.ensures.legal (given_by c.args.setup.now c.args.logs.now []
    (g.L.Link.is_told c.args.link) (g.T.Task.outcome c.args.task.now) (kept_for (g.L.Link.store c.args.link))) refl

pub returns-clause-legal : goal.returns-clause-legal
returns-clause-legal g c = c.new.ensures.legal (given_by c.args.setup.now c.args.logs.now []
    (g.L.Link.is_told c.args.link) (g.T.Task.outcome c.args.task.now) (kept_for (g.L.Link.store c.args.link))) refl
