-- The call did its step, unless memory ran out.
use Rattle.pc_play.proofs.CallLemmas.{closed}
use Rattle.pc_play.proofs.calls.close.Goals as goal

pub returns-clause-effect : goal.returns-clause-effect
returns-clause-effect g c hand = closed _ _ _ _ g.L.Link.store g.L.Link.faults _ _ hand _ _
    c.close.ensures.keeps.link c.answered.ensures c.close.ensures.effect
