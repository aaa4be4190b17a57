-- The next run, by the runs of 0 bits.
use Rattle.std.proofs.Common.{arith, sym}
use Rattle.pc_model.proofs.RunLemmas.{IsAtRun-last_ones, IsAtRun-ones}
use Rattle.pc_model.proofs.RunsAt.{IsNextRun-at}
use Rattle.pc_runlength.proofs.WalkLemmas.{lengths_left-last_ones, lengths_left-none_here, lengths_left-none_left, lengths_left-ones, lengths_left-zeros}
use Rattle.pc_runlength.proofs.run_lengths.run_end.Goals as goal

pub overflow_add-result : goal.overflow_add-result
overflow_add-result c =
    let next = IsNextRun-at _ _ _ _ _ c.requires.at (sym c.in-Some.ensures) in
    omega (arith, next.within, c.count-count.ensures.small)

pub overflow_add-result-in-Some-2 : goal.overflow_add-result-in-Some-2
overflow_add-result-in-Some-2 c =
    let next = IsNextRun-at _ _ _ _ _ c.requires.at (sym c.in-Some.ensures) in
    omega (arith, next.few, c.count-count.ensures.small)

pub returns-in-Some-clause-after : goal.returns-in-Some-clause-after
returns-in-Some-clause-after c =
    let next = IsNextRun-at _ _ _ _ _ c.requires.at (sym c.in-Some.ensures) in next.after

pub returns-in-Some-clause-at : goal.returns-in-Some-clause-at
returns-in-Some-clause-at c =
    IsAtRun-ones _ _ c.args.place _ c.in-Some.field-0-1 (IsNextRun-at _ _ _ _ _ c.requires.at (sym c.in-Some.ensures))

pub returns-in-Some-clause-first : goal.returns-in-Some-clause-first
returns-in-Some-clause-first c =
    lengths_left-ones _ c.args.next_zeros _ _ c.in-Some.field-0-1 _ c.if-ones.true (IsNextRun-at _ _ _ _ _ c.requires.at (sym c.in-Some.ensures))

pub returns-in-Some-2-clause-at : goal.returns-in-Some-2-clause-at
returns-in-Some-2-clause-at c =
    let next = IsNextRun-at _ _ _ _ _ c.requires.at (sym c.in-Some.ensures) in next.next

pub returns-in-Some-2-clause-first : goal.returns-in-Some-2-clause-first
returns-in-Some-2-clause-first c =
    lengths_left-zeros _ c.args.next_zeros _ _ _ _ c.if-ones.false c.if-start-place.true (IsNextRun-at _ _ _ _ _ c.requires.at (sym c.in-Some.ensures))

pub returns-in-None-clause-at : goal.returns-in-None-clause-at
returns-in-None-clause-at c = rw c.count-count.ensures.count (IsAtRun-last_ones _ _ c.args.place c.requires.at (sym c.in-None.ensures))

pub returns-in-None-clause-first : goal.returns-in-None-clause-first
returns-in-None-clause-first c =
    lengths_left-last_ones _ c.args.next_zeros _ _ _ c.if-ones-2.true c.count-count.ensures.count c.requires.at c.requires.within c.in-None.ensures

pub returns-in_default-clause-first : goal.returns-in_default-clause-first
returns-in_default-clause-first c =
    lengths_left-none_here _ c.args.next_zeros _ _ _ _ c.if-ones.false c.if-start-place.false c.requires.at c.requires.within c.in-Some.ensures

pub returns-in_default-2-clause-first : goal.returns-in_default-2-clause-first
returns-in_default-2-clause-first c =
    lengths_left-none_left _ c.args.next_zeros _ _ c.if-ones-2.false c.requires.at c.requires.within c.in-None.ensures
