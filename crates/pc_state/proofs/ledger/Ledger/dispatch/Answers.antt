-- One more job is out, for which there is a place.
use Rattle.std.proofs.Common.{◌<◌, refl, subst, sym, arith}
use Rattle.std.specs.HashMap.{spare}
use Rattle.pc_state.specs.declared.ledger.PartLedger.{PartLedger}
use Rattle.pc_state.proofs.LedgerLemmas.{counts-dispatch, counts-read}
use Rattle.pc_state.proofs.OutLemmas.{out-le}
use Rattle.pc_state.proofs.ledger.Ledger.dispatch.Goals as goal

pub overflow_add-index_mut : goal.overflow_add-index_mut
overflow_add-index_mut c = let (given, h, counts, below, held, few) = c.requires.held in
    let known = counts-read given h c.args.self.now c.args.part c.index_mut.result.now counts below held
    c.index_mut.ensures.value in
    omega (arith, known.out, out-le h c.args.part, few)

pub returns : goal.returns
returns c = λ given h ticket worker offset epoch attempt counts below held settled epoch_is.
    counts-dispatch given h ticket worker c.args.part offset epoch attempt c.args.self.now _
    c.index_mut.result.now _ c.index_mut.ensures.value refl below held settled epoch_is refl refl refl
    refl refl refl refl refl
    (subst (λ (x : PartLedger). x.out < spare x.failed) (sym c.index_mut.ensures.value)
    (c.requires.place c.index_mut.result.now)) counts
