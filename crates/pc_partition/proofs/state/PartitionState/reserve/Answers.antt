-- There is a place for each incomplete offset already.
use Rattle.std.proofs.Common.{◌≤◌, ◌-◌, length, ap, vec_capacity, arith}
use Rattle.pc_partition.proofs.RunsLemmas.{length-runs}
use Rattle.pc_partition.proofs.state.PartitionState.reserve.Goals as goal

pub overflow_sub-room : goal.overflow_sub-room
overflow_sub-room c = rw c.as_slice.ensures.value
    (let few = length-runs 0 c.self.inside.after c.self.inside.runs.list.items c.self.invariant.in_order in
    omega (arith, few, c.self.invariant.left_is))

pub returns-clause-reserved : goal.returns-clause-reserved
returns-clause-reserved c = λ enough.
    let few = length-runs 0 c.self.inside.after c.self.inside.runs.list.items c.self.invariant.in_order in
    let room : c.args.n ≤ vec_capacity c.self.inside.runs.list - c.self.inside.left
    = rw (← c.self.view_is) at enough in
    c.reserve.ensures.succeeds (omega (
      arith,
      room,
      few,
      c.self.invariant.left_is,
      c.self.invariant.room,
      ap length c.as_slice.ensures.value,
      c.self.inside.runs.list.ok.0,
    ))
