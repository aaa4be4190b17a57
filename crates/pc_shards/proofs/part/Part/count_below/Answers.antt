-- The place where the entries stop being below the offset.
use Rattle.std.proofs.Common.{◌<◌, ◌≤◌, ltb, length, rules, subst}
use Rattle.std.specs.List.{AllWithin}
use Rattle.std.proofs.lemmas.Bool.{ltb-true, ltb-false}
use Rattle.std.proofs.lemmas.List.Sorted.{IsPartitionPoint-from_clause, IsPartitionedBy-ltb}
use Rattle.pc_shards.specs.declared.part.EntryRef.{EntryRef}
use Rattle.pc_shards.specs.Rising.{Rises}
use Rattle.pc_shards.proofs.RisingLemmas.{rises-non_decreasing}
use Rattle.pc_shards.proofs.PartLemmas.{offsets-plain}
use Rattle.pc_shards.proofs.part.Part.count_below.Goals as goal
use Rattle.pc_shards.proofs.part.Part.count_below.Goals.{After-partition_point}

sides : (c : After-partition_point)
    → AllWithin (λ (x : EntryRef). x.record.offset < c.args.offset) c.args.self.now.entries.items 0
    c.partition_point.result
    × AllWithin (λ (x : EntryRef). c.args.offset ≤ x.record.offset) c.args.self.now.entries.items
    c.partition_point.result (length c.args.self.now.entries.items)
sides c =
    let es = c.args.self.now.entries.items in
    let rises = subst Rises (offsets-plain es) c.requires in
    let point = IsPartitionPoint-from_clause (λ (e : EntryRef). ltb e.record.offset c.args.offset) es
    c.partition_point.result c.partition_point.ensures.partitioned
    (IsPartitionedBy-ltb (λ e. e.record.offset) es c.args.offset
    (rises-non_decreasing (λ e. e.record.offset) es rises)) (λ a r f' k. search rules) in (
      λ k d low high. ltb-true _ _ (point.0 k d low high),
      λ k d low high. ltb-false _ _ (point.1 k d low high),
    )

pub returns-clause-below : goal.returns-clause-below
returns-clause-below c = (sides c).0

pub returns-clause-above : goal.returns-clause-above
returns-clause-above c = (sides c).1
