-- As many jobs are out as before.
use Rattle.std.proofs.Common.{arith}
use Rattle.pc_state.proofs.LedgerLemmas.{counts-read}
use Rattle.pc_state.proofs.OutLemmas.{out-le}
use Rattle.pc_state.proofs.ledger.Ledger.make_place.Goals as goal

pub overflow_add-out : goal.overflow_add-out
overflow_add-out c = let (given, h, counts, below, held, few) = c.requires in
    let known = counts-read given h c.args.self.now c.args.part c.index_mut-state.result.now counts below
    held c.index_mut-state.ensures.value in
    omega (arith, known.out, out-le h c.args.part, few)
