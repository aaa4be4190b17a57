-- A part that nothing presses is free: a blocked one has a greatest complete offset.
use Rattle.std.proofs.Common.{◌∙◌, sym}
use Rattle.pc_engine.proofs.EnginePoll.{pressed-none}
use Rattle.pc_engine.proofs.polls.unpressed.Goals as goal

pub returns-in-None : goal.returns-in-None
returns-in-None c = λ given h knows held. pressed-none given h c.args.part c.args.offset
    knows.legal held (sym c.in-None.is ∙ c.pressing.ensures given h knows held)
