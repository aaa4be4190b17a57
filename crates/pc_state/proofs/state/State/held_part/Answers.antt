-- Each part has its place in the ledger.
use Rattle.std.proofs.Common.{◌≡◌, ◌<◌, ℕ, true, false, List, length, sym, subst, ◌∙◌}
use Rattle.std.specs.Prelude.{nat_lt}
use Rattle.std.proofs.lemmas.Bool.{lt-ltb}
use Rattle.pc_state.specs.declared.ledger.PartLedger.{PartLedger}
use Rattle.pc_state.proofs.LedgerLemmas.{ledger-below}
use Rattle.pc_laws.proofs.HeldLaw.{held-has_log, log-below}
use Rattle.pc_state.proofs.state.State.held_part.Goals as goal

there : (p : ℕ) (items slice : List PartLedger) → slice ≡ items → p < length items
    → false ≡ nat_lt p (length slice) → ⊥
there p items slice same below past =
    let yes = lt-ltb p (length slice) (subst (λ (xs : List PartLedger). p < length xs) (sym same) below) in
    let no : false ≡ true = past ∙ yes in cc

pub returns-in_err-kept-clause-free : goal.returns-in_err-kept-clause-free
returns-in_err-kept-clause-free c = λ none given h knows.
    let held = c.in_ok-held.ensures.knows given h knows in
    let below = log-below given.logs c.args.part (held-has_log given h c.args.part knows.legal held.0) in
    absurd (there c.args.part _ _ c.as_slice.ensures.value
    (ledger-below given h c.args.self.now c.args.part knows below) c.in_err-kept.ensures.lookup.0)
