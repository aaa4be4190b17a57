-- The call did its step, unless memory ran out.
use Rattle.pc_play.proofs.CallLemmas.{drained}
use Rattle.pc_play.proofs.calls.drain.Goals as goal

pub returns-clause-effect : goal.returns-clause-effect
returns-clause-effect g c hand = drained _ _ _ _ g.L.Link.store g.L.Link.faults _ _ hand _ _
    c.begin_drain.ensures.keeps.link c.answered.ensures c.begin_drain.ensures.effect
