-- The call did its step, unless memory ran out.
use Rattle.pc_play.proofs.CallLemmas.{crashed}
use Rattle.pc_play.proofs.calls.crash.Goals as goal

pub returns-clause-effect : goal.returns-clause-effect
returns-clause-effect g c hand = crashed _ _ _ _ g.L.Link.store g.L.Link.faults _ _ hand _ _
    c.crash.ensures.keeps.link c.answered.ensures c.crash.ensures.effect
