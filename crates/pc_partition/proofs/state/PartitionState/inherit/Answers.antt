-- The offset lies above the known ones, and there is room for it.
use Rattle.std.proofs.Common.{ap, refl, arith}
use Rattle.pc_partition.specs.Window.{PartitionView}
use Rattle.pc_partition.proofs.RunsLemmas.{length-runs, offsets_in-add_run}
use Rattle.pc_partition.proofs.StateLemmas.{AreRuns-upto, IsCounted-state, IsState-append, IsState-complete}
use Rattle.pc_partition.proofs.state.PartitionState.inherit.Goals as goal
use Rattle.pc_partition.proofs.state.PartitionState.inherit.Goals.{then-is_complete, else-is_complete}

pub complete_above-requires-clause-counted : goal.complete_above-requires-clause-counted
complete_above-requires-clause-counted c = IsCounted-state _ _ _ _ _ _ _ _ c.self.invariant

pub complete_above-requires-clause-above : goal.complete_above-requires-clause-above
complete_above-requires-clause-above c =
    let after = ap (λ (v : PartitionView). v.window.after) c.self.view_is in
    AreRuns-upto c.self.inside.after c.args.offset c.self.inside.runs.list.items c.self.invariant.in_order
    (omega (arith, after, c.requires.above))

pub append-requires-clause-in_order : goal.append-requires-clause-in_order
append-requires-clause-in_order c =
    let after = ap (λ (v : PartitionView). v.window.after) c.self.view_is in
    AreRuns-upto c.self.inside.after c.args.offset c.self.inside.runs.list.items c.self.invariant.in_order
    (omega (arith, after, c.requires.above))

pub append-requires-clause-room : goal.append-requires-clause-room
append-requires-clause-room c =
    let room = ap (λ (v : PartitionView). v.room) c.self.view_is in
    let few = length-runs 0 c.self.inside.after c.self.inside.runs.list.items c.self.invariant.in_order in
    omega (arith, room, few, c.requires.room, c.self.inside.runs.list.ok, c.self.invariant.left_is)

pub invariant_of-self : goal.invariant_of-self
invariant_of-self c =
    let after = ap (λ (v : PartitionView). v.window.after) c.self.view_is in
    let room = ap (λ (v : PartitionView). v.room) c.self.view_is in
    elim c.if-is_complete.branch [
      | then-is_complete w ↦ rw (w.self-inside-is, w.complete_above.ensures.list, w.complete_above.ensures.high)
          (IsState-complete _ _ _ _ _ _ _ _ _ c.args.offset c.self.invariant (omega (arith, after, c.requires.above))
          (omega (arith, c.requires.small))
          (rw (w.complete_above.ensures.list, w.complete_above.ensures.high) at w.complete_above.ensures.counts))
      | else-is_complete w ↦ rw (w.self-inside-is, w.append.ensures.runs, w.append.ensures.capacity)
          (IsState-append _ _ _ _ _ _ _ _ c.args.offset c.self.invariant
          (omega (arith, after, c.requires.above)) (omega (arith, c.requires.small))
          (omega (arith, room, c.requires.room)))
    ]

pub returns-clause-window : goal.returns-clause-window
returns-clause-window c =
    let after = ap (λ (v : PartitionView). v.window.after) c.self.view_is in
    elim c.if-is_complete.branch [
      | then-is_complete w ↦ rw (w.self-inside-is, w.complete_above.ensures.list, w.complete_above.ensures.high, w.if-is_complete.true, ← c.self.view_is) refl
      | else-is_complete w ↦
          let upto = AreRuns-upto c.self.inside.after c.args.offset c.self.inside.runs.list.items c.self.invariant.in_order
          (omega (arith, after, c.requires.above)) in
          rw (
            w.self-inside-is,
            w.if-is_complete.false,
            ← c.self.view_is,
            w.append.ensures.runs,
            offsets_in-add_run 0 c.args.offset c.self.inside.runs.list.items upto,
          ) refl
    ]
