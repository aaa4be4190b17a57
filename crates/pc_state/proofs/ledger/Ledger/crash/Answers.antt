-- No part more or less is kept.
use Rattle.std.proofs.Common.{length, refl, ap, sym, ◌∙◌}
use Rattle.std.proofs.lemmas.List.{with_items_is}
use Rattle.pc_state.proofs.LedgerLemmas.{counts-crash}
use Rattle.pc_state.proofs.ledger.Ledger.crash.Goals as goal

pub returns : goal.returns
returns c = λ given h counts. counts-crash given h c.args.self.now _
    (ap length (with_items_is c.args.self.now.parts c.forget_all.new.parts
    (c.forget_all.auto.parts ∙ ap length c.deref_mut.ensures.value ∙ sym c.args.self.now.parts.ok.0))
    ∙ c.forget_all.auto.parts ∙ ap length c.deref_mut.ensures.value) refl refl refl counts
