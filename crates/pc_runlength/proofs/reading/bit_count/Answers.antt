-- One number more, or the end of the bytes.
use Rattle.std.proofs.Common.{arith}
use Rattle.pc_runlength.proofs.ReadingLemmas.{checked_count-negative, checked_count-short, checked_count-whole, counted_more, list_all-fits_more}
use Rattle.pc_runlength.proofs.reading.bit_count.Goals as goal

pub returns-then-not-fits : goal.returns-then-not-fits
returns-then-not-fits c =
    checked_count-negative _ c.loop-i.i _ _ c.loop-i-test.true c.number_at-n.ensures c.if-not-fits.ensures c.loop-i.invariant.0

pub loop-i-preserved : goal.loop-i-preserved
loop-i-preserved c = (
  list_all-fits_more _ c.loop-i.i _ _ c.loop-i-test.true c.number_at-n.ensures c.if-not-fits.ensures c.loop-i.invariant.0,
  counted_more _ c.loop-i.i _ _ _ _ c.loop-i-test.true c.number_at-n.ensures c.saturating_add-count.ensures c.loop-i.invariant.1,
  omega (arith, c.saturating_add-count.ensures),
)

pub returns-then-left-gt0 : goal.returns-then-left-gt0
returns-then-left-gt0 c = checked_count-short _ c.loop-i.i _ c.loop-i-test.false c.if-left-gt0.true c.loop-i.invariant.0

pub returns : goal.returns
returns c =
    checked_count-whole _ c.loop-i.i _ _ c.loop-i-test.false c.if-left-gt0.false c.loop-i.invariant.2 c.loop-i.invariant.0 c.loop-i.invariant.1
