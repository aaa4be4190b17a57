-- One of those that were there is gone.
use Rattle.std.proofs.Common.{ℕ}
use Rattle.std.specs.BinaryHeap.{heap_items}
use Rattle.std.specs.declared.cmp.Reverse.{Reverse}
use Rattle.std.proofs.lemmas.List.Sorted.{IsPermutation-map}
use Rattle.pc_retry.specs.Offsets.{plain}
use Rattle.pc_retry.proofs.OffsetsLemmas.{hold-taken}
use Rattle.pc_retry.proofs.offsets.Offsets.take.Goals as goal

pub returns-clause-taken : goal.returns-clause-taken
returns-clause-taken c = rw (← c.self.view_is) (λ offsets hold.
    c.tidy.ensures.same offsets
    (hold-taken c.args.offset offsets (plain (heap_items c.self.inside.added))
    (plain (heap_items c.self.inside.gone)) (plain (heap_items c.push.new.self))
    (IsPermutation-map (λ (o : Reverse ℕ). o.0) _ _ c.in-Ok.ensures.permutation) hold))
