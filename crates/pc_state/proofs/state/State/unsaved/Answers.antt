-- The ledger has the position of the first commit that may be stored.
use Rattle.std.proofs.Common.{sym, ◌∙◌}
use Rattle.pc_state.proofs.StoredLemmas.{unsaved-apart}
use Rattle.pc_state.proofs.state.State.unsaved.Goals as goal

pub returns-else-kept : goal.returns-else-kept
returns-else-kept c = λ given h knows.
    let it = c.in-Some.ensures.knows given h knows in
    unsaved-apart given h c.args.part c.in-Some.kept.now.stored c.position.result knows.legal it.0
    it.2.stored (c.position.ensures.position _ _ _ it.1.stands)
    (sym it.2.unstored ∙ c.if-kept.false)
