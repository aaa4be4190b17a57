use Rattle.std.proofs.Common.{refl}
use Rattle.pc_state.proofs.QueryLemmas.{unknown-free}
use Rattle.pc_state.proofs.state.State.is_current.Goals as goal

pub returns-in-None : goal.returns-in-None
returns-in-None c = λ given h knows.
    rw (unknown-free given h c.args.part knows.legal (c.in-None.ensures.unknown refl given h knows)) refl
