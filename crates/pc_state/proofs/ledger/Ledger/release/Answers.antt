use Rattle.std.proofs.Common.{refl}
use Rattle.pc_state.proofs.LedgerLemmas.{counts-lost, counts-revoke}
use Rattle.pc_state.proofs.ledger.Ledger.release.Goals as goal

pub returns-clause-lost : goal.returns-clause-lost
returns-clause-lost c = λ given h epoch counts. counts-lost given h c.args.self.now _ c.args.part
    epoch c.begun_at.result refl c.requires refl refl refl counts

pub returns-clause-revoked : goal.returns-clause-revoked
returns-clause-revoked c = λ given h epoch counts. counts-revoke given h c.args.self.now _
    c.args.part epoch c.begun_at.result refl c.requires refl refl refl counts
