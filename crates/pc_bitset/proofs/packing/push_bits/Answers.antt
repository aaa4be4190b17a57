-- A run of 1 bits and one of 0 bits in turn.
use Rattle.std.proofs.Common.{arith, sym}
use Rattle.std.proofs.lemmas.List.{append-nil}
use Rattle.std.proofs.lemmas.Result.{on_ok_weaker}
use Rattle.pc_model.proofs.RunsAt.{IsAtRun-start, IsNextRun-at}
use Rattle.pc_bitset.proofs.PackingLemmas.{packed_end, packed_run}
use Rattle.pc_bitset.proofs.packing.push_bits.Goals as goal

pub loop-start-init : goal.loop-start-init
loop-start-init c = (IsAtRun-start c.args.bits.now, sym (append-nil c.args.out.now.items))

pub overflow_sub-start : goal.overflow_sub-start
overflow_sub-start c =
    let next = IsNextRun-at _ c.loop-start.i _ _ _ c.loop-start.invariant.0 (sym c.in-Some.ensures) in next.after

pub overflow_add-place : goal.overflow_add-place
overflow_add-place c =
    let next = IsNextRun-at _ c.loop-start.i _ _ _ c.loop-start.invariant.0 (sym c.in-Some.ensures) in
    omega (arith, next.within, c.count-count.ensures.small)

pub overflow_add-i : goal.overflow_add-i
overflow_add-i c =
    let next = IsNextRun-at _ c.loop-start.i _ _ _ c.loop-start.invariant.0 (sym c.in-Some.ensures) in
    omega (arith, next.few, c.count-count.ensures.small)

pub loop-start-smaller : goal.loop-start-smaller
loop-start-smaller c =
    let next = IsNextRun-at _ c.loop-start.i _ _ _ c.loop-start.invariant.0 (sym c.in-Some.ensures) in
    omega (arith, next.left)

pub loop-start-preserved : goal.loop-start-preserved
loop-start-preserved c =
    let next = IsNextRun-at _ c.loop-start.i _ _ _ c.loop-start.invariant.0 (sym c.in-Some.ensures) in
    (next.next, packed_run _ c.loop-start.i _ _ _ _ _ _ _ c.loop-start.invariant.0 next c.loop-start.invariant.1 c.in_ok-append.ensures c.in_ok-append-2.ensures)

pub returns : goal.returns
returns c =
    on_ok_weaker c.append-2.result
    (packed_end _ c.loop-start.i _ _ _ _ _ c.count-count.ensures.count c.loop-start.invariant.0 c.in_default.ensures c.loop-start.invariant.1)
    c.append-2.ensures
