-- The runs begin in order, so that a test of their places splits them.
use Rattle.std.proofs.Common.{ℕ, ◌^◌, leb, rules}
use Rattle.std.proofs.lemmas.Bool.{leb-true, leb-false}
use Rattle.std.proofs.lemmas.List.Sorted.{IsPartitionPoint-from_clause, IsPartitionedBy-leb}
use Rattle.pc_partition.proofs.RunsLemmas.{IsNonDecreasingBy-runs}
use Rattle.pc_partition.proofs.runs.count_upto.Goals as goal

pub returns-clause-upto : goal.returns-clause-upto
returns-clause-upto c =
    let point = IsPartitionPoint-from_clause (λ (run : ℕ × ℕ). leb run.0 c.args.offset) c.args.runs.now
    c.partition_point.result c.partition_point.ensures.partitioned
    (IsPartitionedBy-leb (λ run. run.0) c.args.runs.now c.args.offset (IsNonDecreasingBy-runs 0 (2 ^ 63) c.args.runs.now c.requires))
    (λ a r f' k. search rules) in
    λ k d low high. leb-true _ _ (point.0 k d low high)

pub returns-clause-above : goal.returns-clause-above
returns-clause-above c =
    let point = IsPartitionPoint-from_clause (λ (run : ℕ × ℕ). leb run.0 c.args.offset) c.args.runs.now
    c.partition_point.result c.partition_point.ensures.partitioned
    (IsPartitionedBy-leb (λ run. run.0) c.args.runs.now c.args.offset (IsNonDecreasingBy-runs 0 (2 ^ 63) c.args.runs.now c.requires))
    (λ a r f' k. search rules) in
    λ k d low high. leb-false _ _ (point.1 k d low high)
