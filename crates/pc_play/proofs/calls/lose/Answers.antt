-- The call did its step, unless memory ran out.
use Rattle.pc_play.proofs.CallLemmas.{lost}
use Rattle.pc_play.proofs.calls.lose.Goals as goal

pub returns-clause-effect : goal.returns-clause-effect
returns-clause-effect g c hand = lost _ _ _ _ g.L.Link.store g.L.Link.faults _ _ hand _ _
    c.lose.ensures.keeps.link c.answered.ensures c.args.part c.lose.ensures.effect
