-- Nothing of a part that is not held failed.
use Rattle.std.proofs.Common.{refl, sym}
use Rattle.pc_state.proofs.DueLaw.{failures-free}
use Rattle.pc_state.proofs.state.State.failures.Goals as goal

pub returns-in_default : goal.returns-in_default
returns-in_default c = λ given h knows. sym (failures-free given h c.args.part c.args.offset
    knows.legal (c.in_default.ensures.free refl given h knows))
