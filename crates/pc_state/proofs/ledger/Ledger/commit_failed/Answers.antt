use Rattle.std.proofs.Common.{refl}
use Rattle.pc_state.proofs.LedgerLemmas.{counts-failed}
use Rattle.pc_state.proofs.ledger.Ledger.commit_failed.Goals as goal

pub returns : goal.returns
returns c = λ given h position text size counts held. counts-failed given h c.args.self.now _
    c.args.part position size text c.index_mut.result.now _ c.index_mut.ensures.value refl
    c.requires refl refl refl counts held refl refl refl refl refl
