use Rattle.std.proofs.Common.{refl}
use Rattle.pc_state.proofs.LedgerLemmas.{counts-closed, counts-done}
use Rattle.pc_state.proofs.ledger.Ledger.end.Goals as goal

pub returns-clause-done : goal.returns-clause-done
returns-clause-done c = λ given h counts. counts-done given h c.args.self.now _ refl refl refl refl
    counts

pub returns-clause-closed : goal.returns-clause-closed
returns-clause-closed c = λ given h counts. counts-closed given h c.args.self.now _ refl refl refl
    refl counts
