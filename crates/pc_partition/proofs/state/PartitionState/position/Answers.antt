-- The first run begins at the least incomplete offset.
use Rattle.std.proofs.Common.{sym, ap, ◌∙◌}
use Rattle.pc_partition.specs.Window.{PartitionView}
use Rattle.pc_partition.proofs.StateLemmas.{least-first_run, least-no_run, position-first, position-no_first}
use Rattle.pc_partition.proofs.state.PartitionState.position.Goals as goal

pub returns-in-Some-clause-position : goal.returns-in-Some-clause-position
returns-in-Some-clause-position c = λ begin n marks is. position-first c.args.self.now.window begin n marks
    c.self.inside.after c.self.inside.runs.list.items c.in-Some.run'.now is
    (ap (λ (v : PartitionView). v.window.incomplete) (sym c.self.view_is)) c.self.invariant.in_order
    (sym (rw c.as_slice.ensures.value at c.in-Some.ensures.value))

pub returns-in-None-clause-position : goal.returns-in-None-clause-position
returns-in-None-clause-position c = λ begin n marks is. ap (λ (v : PartitionView). v.window.after) c.self.view_is
    ∙ position-no_first c.args.self.now.window begin n marks c.self.inside.runs.list.items is
    (ap (λ (v : PartitionView). v.window.incomplete) (sym c.self.view_is))
    (sym (rw c.as_slice.ensures.value at c.in-None.ensures.value))

pub returns-in-Some-clause-least : goal.returns-in-Some-clause-least
returns-in-Some-clause-least c = rw (← c.self.view_is)
    (least-first_run c.self.inside.after c.self.inside.runs.list.items c.in-Some.run'.now c.self.invariant.in_order
    (sym (rw c.as_slice.ensures.value at c.in-Some.ensures.value)))

pub returns-in-None-clause-least : goal.returns-in-None-clause-least
returns-in-None-clause-least c = rw (← c.self.view_is)
    (least-no_run c.self.inside.after c.self.inside.runs.list.items
    (sym (rw c.as_slice.ensures.value at c.in-None.ensures.value)))
