-- The runs are in order.
use Rattle.pc_partition.proofs.StateLemmas.{AreRuns-all}
use Rattle.pc_partition.proofs.state.PartitionState.is_open.Goals as goal

pub contains-requires : goal.contains-requires
contains-requires c = rw c.as_slice.ensures.value
    (AreRuns-all c.self.inside.after c.self.inside.runs.list.items c.self.invariant.in_order c.self.invariant.small)
