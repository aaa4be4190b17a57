-- The ledger has the position of the first commit that may be stored.
use Rattle.pc_state.proofs.StoredLemmas.{none-other, some-other}
use Rattle.pc_state.proofs.state.State.uncommitted_at.Goals as goal

pub returns-then-kept-position : goal.returns-then-kept-position
returns-then-kept-position c = λ given h knows.
    let it = c.in_ok-held.ensures.knows given h knows in
    none-other given h c.args.part c.in_ok-held.kept.now.stored c.position.result knows.legal it.0
    it.2.stored (c.position.ensures.position _ _ _ it.1.stands) c.if-kept-position.true

pub returns-else-kept-position : goal.returns-else-kept-position
returns-else-kept-position c = λ given h knows.
    let it = c.in_ok-held.ensures.knows given h knows in
    some-other given h c.args.part c.in_ok-held.kept.now.stored c.position.result knows.legal it.0
    it.2.stored (c.position.ensures.position _ _ _ it.1.stands) c.if-kept-position.false
