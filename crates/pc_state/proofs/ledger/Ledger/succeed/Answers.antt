-- There are no more successes than events, and the job was out.
use Rattle.std.proofs.Common.{refl, arith}
use Rattle.pc_model.specs.Epochs.{epoch_of}
use Rattle.pc_state.proofs.LedgerLemmas.{counts-read, counts-success, fresh-few, successes-few}
use Rattle.pc_state.proofs.OutLemmas.{out-some}
use Rattle.pc_state.proofs.ledger.Ledger.succeed.Goals as goal

pub overflow_add-state : goal.overflow_add-state
overflow_add-state c = let (given, h, ticket, offset, counts, legal, work, below, few) = c.requires in
    let known = counts-read given h c.args.self.now c.args.part c.index_mut-state.result.now counts below
    work.held c.index_mut-state.ensures.value in
    omega (arith, known.fresh, fresh-few h c.args.part (epoch_of h c.args.part), few)

pub overflow_sub-state : goal.overflow_sub-state
overflow_sub-state c = let (given, h, ticket, offset, counts, legal, work, below, few) = c.requires in
    let known = counts-read given h c.args.self.now c.args.part c.index_mut-state.result.now counts below
    work.held c.index_mut-state.ensures.value in
    omega (arith, known.out, out-some given h legal ticket c.args.part offset work)

pub overflow_add-self : goal.overflow_add-self
overflow_add-self c = let (given, h, ticket, offset, counts, legal, work, below, few) = c.requires in
    let least = successes-few h in omega (arith, counts.successes, least, few)

pub returns : goal.returns
returns c = λ given h ticket offset answer counts legal work below.
    let known = counts-read given h c.args.self.now c.args.part c.index_mut-state.result.now counts below
    work.held c.index_mut-state.ensures.value in
    let some = out-some given h legal ticket c.args.part offset work in
    counts-success given h ticket c.args.part offset legal work answer c.args.self.now _
    c.index_mut-state.result.now _ c.index_mut-state.ensures.value refl below refl refl refl refl refl
    refl (omega (arith, known.out, some)) refl counts
