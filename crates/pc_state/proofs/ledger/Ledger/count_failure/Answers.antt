-- The job was out, and there is a place for its failure.
use Rattle.std.proofs.Common.{refl, arith}
use Rattle.pc_model.specs.Epochs.{epoch_of}
use Rattle.pc_state.proofs.LedgerLemmas.{counts-failure, counts-read, failures_of-le}
use Rattle.pc_state.proofs.OutLemmas.{out-some}
use Rattle.pc_state.proofs.ledger.Ledger.count_failure.Goals as goal

pub overflow_sub-state : goal.overflow_sub-state
overflow_sub-state c = let (given, h, ticket, counts, legal, work, below, few) = c.requires in
    let known = counts-read given h c.args.self.now c.args.part c.index_mut-state.result.now counts below
    work.held c.index_mut-state.ensures.value in
    omega (arith, known.out, out-some given h legal ticket c.args.part c.args.offset work)

pub add_failure-requires-clause-place : goal.add_failure-requires-clause-place
add_failure-requires-clause-place c = let (given, h, ticket, counts, legal, work, below, few) = c.requires in
    let known = counts-read given h c.args.self.now c.args.part c.index_mut-state.result.now counts below
    work.held c.index_mut-state.ensures.value in
    let some = out-some given h legal ticket c.args.part c.args.offset work in
    omega (arith, known.out, known.places, some)

pub add_failure-requires-clause-fits : goal.add_failure-requires-clause-fits
add_failure-requires-clause-fits c = let (given, h, ticket, counts, legal, work, below, few) = c.requires in
    let known = counts-read given h c.args.self.now c.args.part c.index_mut-state.result.now counts below
    work.held c.index_mut-state.ensures.value in
    let is = known.failed c.args.offset in
    let le = failures_of-le h c.args.part (epoch_of h c.args.part) c.args.offset in
    omega (arith, is, le, few)

pub returns : goal.returns
returns c = λ given h ticket code ready counts legal work below.
    let known = counts-read given h c.args.self.now c.args.part c.index_mut-state.result.now counts below
    work.held c.index_mut-state.ensures.value in
    let some = out-some given h legal ticket c.args.part c.args.offset work in
    counts-failure given h ticket c.args.part c.args.offset legal work code ready c.args.self.now _
    c.index_mut-state.result.now _ c.index_mut-state.ensures.value refl below refl refl refl refl refl
    refl (omega (arith, known.out, some)) c.add_failure.ensures.counted c.add_failure.ensures.place
    counts
