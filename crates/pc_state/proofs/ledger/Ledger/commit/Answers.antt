use Rattle.std.proofs.Common.{refl}
use Rattle.pc_state.proofs.LedgerLemmas.{counts-commit}
use Rattle.pc_state.proofs.ledger.Ledger.commit.Goals as goal

pub returns : goal.returns
returns c = λ given h text size counts held. counts-commit given h c.args.self.now _ c.args.part
    c.args.position size text c.index_mut-state.result.now _ c.index_mut-state.ensures.value refl
    c.requires refl refl refl counts held refl refl refl refl refl
