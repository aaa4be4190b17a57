use Rattle.std.proofs.Common.{refl}
use Rattle.pc_state.proofs.QueryLemmas.{unknown-free}
use Rattle.pc_state.proofs.state.State.held.Goals as goal

pub returns-in_err-part-clause-free : goal.returns-in_err-part-clause-free
returns-in_err-part-clause-free c = λ none given h knows.
    unknown-free given h c.args.part knows.legal (c.in_err-part.ensures.unknown refl given h knows)
