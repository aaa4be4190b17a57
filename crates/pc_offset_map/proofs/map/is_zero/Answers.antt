-- The place lies before the run in the middle, in it or after it.
use Rattle.std.proofs.Common.{arith}
use Rattle.pc_offset_map.proofs.SearchLemmas.{IsBetween-after, IsBetween-before, not-in_no_run, not-in_run}
use Rattle.pc_offset_map.proofs.map.is_zero.Goals as goal

pub loop-low-preserved-then-place-start : goal.loop-low-preserved-then-place-start
loop-low-preserved-then-place-start c =
    IsBetween-before _ _ _ c.loop-low.high _ _ _ c.loop-low.invariant (omega (arith, c.loop-low-test.true)) c.in-Some.ensures c.if-place-start.true

pub returns-then-place-start-2 : goal.returns-then-place-start-2
returns-then-place-start-2 c =
    not-in_run _ _ _ _ _ c.in-Some.ensures c.if-place-start.false c.if-place-start-2.true

pub loop-low-preserved : goal.loop-low-preserved
loop-low-preserved c =
    IsBetween-after _ _ _ _ _ _ _ c.loop-low.invariant c.in-Some.ensures (omega (arith, c.if-place-start.false, c.if-place-start-2.false))

pub returns : goal.returns
returns c = not-in_no_run _ _ _ _ c.loop-low.invariant c.loop-low-test.false c.requires
