-- The offset is taken out of the runs, and the greatest of it and the high is the new high.
use Rattle.std.proofs.Common.{◌≡◌, eqb, true, ap, ◌∙◌}
use Rattle.std.specs.List.{list_any}
use Rattle.pc_partition.specs.Runs.{offsets_in}
use Rattle.pc_partition.specs.Window.{PartitionView}
use Rattle.pc_partition.proofs.StateLemmas.{IsCounted-state, IsState-taken_polled, IsState-taken_unpolled}
use Rattle.pc_partition.proofs.state.PartitionState.complete.Goals as goal

pub complete-requires-clause-counted : goal.complete-requires-clause-counted
complete-requires-clause-counted c = IsCounted-state _ _ _ _ _ _ _ _ c.self.invariant

pub invariant_of-self : goal.invariant_of-self
invariant_of-self c =
    let has : list_any (λ x. eqb x c.args.offset) (offsets_in c.self.inside.runs.list.items) ≡ true =
    ap (λ (v : PartitionView). list_any (λ x. eqb x c.args.offset) v.window.incomplete) c.self.view_is ∙ c.requires in
    rw c.complete.ensures.high (IsState-taken_polled _ _ _ _ _ _ _ _ _ _ c.args.offset _
    c.self.invariant has c.complete.ensures.taken (c.complete.ensures.in_order 0 c.self.inside.after c.self.invariant.in_order)
    (rw c.complete.ensures.high at c.complete.ensures.counts) c.complete.ensures.capacity c.if-offset-self.true)

pub invariant_of-self-else-offset-self : goal.invariant_of-self-else-offset-self
invariant_of-self-else-offset-self c =
    let has : list_any (λ x. eqb x c.args.offset) (offsets_in c.self.inside.runs.list.items) ≡ true =
    ap (λ (v : PartitionView). list_any (λ x. eqb x c.args.offset) v.window.incomplete) c.self.view_is ∙ c.requires in
    rw c.complete.ensures.high (IsState-taken_unpolled _ _ _ _ _ _ _ _ _ _ c.args.offset _
    c.self.invariant has c.complete.ensures.taken (c.complete.ensures.in_order 0 c.self.inside.after c.self.invariant.in_order)
    (rw c.complete.ensures.high at c.complete.ensures.counts) c.complete.ensures.capacity c.if-offset-self.false)
