-- Both lose the same, and less is gone.
use Rattle.std.proofs.Common.{sym, ◌∙◌}
use Rattle.std.specs.BinaryHeap.{heap_items}
use Rattle.pc_retry.specs.Offsets.{plain}
use Rattle.pc_retry.proofs.OffsetsLemmas.{tidying-less, tidying-step}
use Rattle.pc_retry.proofs.offsets.tidy.Goals as goal

pub least-smaller : goal.least-smaller
least-smaller c = tidying-less (heap_items c.least.gone) (heap_items c.drop_least-in-least.new.heap)
    (plain (heap_items c.least.added)) c.drop_least-in-least.ensures.dropped
    (sym c.shares_least.ensures ∙ c.least-test.true)

pub least-preserved : goal.least-preserved
least-preserved c = (
  tidying-step (heap_items c.args.added.now) (heap_items c.args.gone.now)
      (heap_items c.least.added) (heap_items c.least.gone) (heap_items c.drop_least.new.heap)
      (heap_items c.drop_least-in-least.new.heap) c.least.invariant.0 c.drop_least.ensures.heap
      c.drop_least-in-least.ensures.heap c.drop_least.ensures.dropped
      c.drop_least-in-least.ensures.dropped c.drop_least.ensures.fewer
      (sym c.shares_least.ensures ∙ c.least-test.true),
  c.drop_least.ensures.places ∙ c.least.invariant.1,
  c.drop_least-in-least.ensures.places ∙ c.least.invariant.2,
)
