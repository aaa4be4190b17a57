use Rattle.std.proofs.Common.{refl}
use Rattle.pc_state.proofs.LedgerLemmas.{counts-drain}
use Rattle.pc_state.proofs.ledger.Ledger.drain.Goals as goal

pub returns : goal.returns
returns c = λ given h counts. counts-drain given h c.args.self.now _ refl refl refl refl counts
