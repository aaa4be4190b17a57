-- The call did its step, unless memory ran out.
use Rattle.pc_play.proofs.CallLemmas.{finished}
use Rattle.pc_play.proofs.calls.done.Goals as goal

pub returns-clause-effect : goal.returns-clause-effect
returns-clause-effect g c hand = finished _ _ _ _ g.L.Link.store g.L.Link.faults _ _ hand _ _
    c.finish.ensures.keeps.link c.answered.ensures c.finish.ensures.effect
