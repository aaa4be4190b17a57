-- What is kept of the offsets stays while both lose the same.
use Rattle.std.proofs.Common.{◌≡◌, length}
use Rattle.std.specs.BinaryHeap.{heap_capacity, heap_items}
use Rattle.pc_retry.proofs.OffsetsLemmas.{IsTidying}
use Rattle.pc_retry.proofs.offsets.tidy.Given as goal

abbrev pub invariant-least : goal.invariant-least
invariant-least l = IsTidying (heap_items l.initial.added) (heap_items l.initial.gone)
    (heap_items l.added) (heap_items l.gone)
    × (heap_capacity l.added ≡ heap_capacity l.initial.added)
    × (heap_capacity l.gone ≡ heap_capacity l.initial.gone)

abbrev pub decreases-least : goal.decreases-least
decreases-least l = length (heap_items l.gone)
