-- After one assignment there is room for another.
use Rattle.std.proofs.Common.{[], ◌∷◌, lit<}
use Rattle.pc_model.specs.declared.event.Event.TheVariants.{Assign}
use Rattle.pc_assignment.proofs.EpochsLaws.{AreSmall-few}
use Rattle.pc_assignment.proofs.tests.a_held_part_is_refused.Goals as goal

pub assign-requires-in-Ok : goal.assign-requires-in-Ok
assign-requires-in-Ok g c = AreSmall-few (Assign 1 1 0 [] ∷ []) c.assign.new.self (lit< tt)
    (c.in-Ok.ensures.epochs [] 0 [] c.in_ok-epochs.ensures.epochs)
