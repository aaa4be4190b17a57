use Rattle.std.proofs.Common.{refl}
use Rattle.pc_state.proofs.LedgerLemmas.{counts-assign}
use Rattle.pc_state.proofs.ledger.Ledger.assign.Goals as goal

pub returns : goal.returns
returns c = λ given h epoch text counts legal. counts-assign given h c.args.self.now _ c.args.part
    epoch c.args.position text c.begun_at.result (record {
      stored = c.begun_at.ensures.stored;
      fresh = c.begun_at.ensures.fresh;
      unstored = c.begun_at.ensures.unstored;
      out = c.begun_at.ensures.out;
      failed = c.begun_at.ensures.failed;
    }) refl c.requires refl refl refl counts legal
