-- The revocation did its step, whatever became of its commit.
use Rattle.std.proofs.Common.{Ok}
use Rattle.pc_rebalance.proofs.CallLemmas.{revokes-of}
use Rattle.pc_rebalance.proofs.calls.give_back.Goals as goal

pub returns-clause-block : goal.returns-clause-block
returns-clause-block g c =
    revokes-of g.L.Link.is_told g.L.Link.store g.L.Link.faults g.T.Task.outcome
    c.args.engine.now c.revoke.new.self c.args.part (Ok c.in_ok-_failed._failed)
    c.in_ok-_failed.ensures.effect c.in_ok-_failed.ensures.refused c.in_ok-_failed.ensures.stays
    c.in_ok-_failed.ensures.asks
