-- One more was added.
use Rattle.std.proofs.Common.{ℕ, ◌∷◌}
use Rattle.std.specs.BinaryHeap.{heap_items}
use Rattle.std.specs.declared.cmp.Reverse.{Reverse}
use Rattle.std.proofs.lemmas.List.Sorted.{IsPermutation-map}
use Rattle.pc_retry.specs.Offsets.{plain}
use Rattle.pc_retry.proofs.OffsetsLemmas.{hold-put}
use Rattle.pc_retry.proofs.offsets.Offsets.put.Goals as goal

pub returns-clause-put : goal.returns-clause-put
returns-clause-put c = rw (← c.self.view_is) (λ offsets hold.
    c.tidy.ensures.same (c.args.offset ∷ offsets)
    (hold-put c.args.offset offsets (plain (heap_items c.self.inside.added))
    (plain (heap_items c.push.new.self)) (plain (heap_items c.self.inside.gone))
    (IsPermutation-map (λ (o : Reverse ℕ). o.0) _ _ c.in-Ok.ensures.permutation) hold))
