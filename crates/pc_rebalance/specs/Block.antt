-- A step's block as the steps of a run see it.
use Rattle.std.specs.Prelude.{ℕ, ◌+◌, ◌≡◌, ◌==◌, Bool, true, false, List, [], ◌∷◌, ◌++◌}
use Rattle.std.specs.List.{list_all}
use Rattle.pc_model.specs.declared.event.Event.{Event}
use Rattle.pc_model.specs.declared.event.Event.TheVariants.{Assign, Commit as Committed, CommitFailed, Revoke, Lost, Crash}
use Rattle.pc_model.specs.declared.step.Act.{Act}
use Rattle.pc_model.specs.declared.step.Act.TheVariants as act
use Rattle.pc_model.specs.Given.{Given}
use Rattle.pc_model.specs.Lawful.{held_parts}
use Rattle.pc_model.specs.Steps.{Place}

-- the place after one more block, which is whole
abbrev pub next_place : Place → Place
next_place place = record { begun = place.begun + 1; left = [] }

-- whether the block of the act may have the event
abbrev pub is_event_of : Act → Event → Bool
is_event_of (act.Assign p) (Assign q epoch position text) = q == p
is_event_of (act.Revoke p) (Committed q position text size) = q == p
is_event_of (act.Revoke p) (CommitFailed q position text size) = q == p
is_event_of (act.Revoke p) (Revoke q epoch) = q == p
is_event_of (act.Lose p) (Lost q epoch) = q == p
is_event_of act.Crash Crash = true
is_event_of act.Crash (Assign q epoch position text) = true
is_event_of _ _ = false

-- events of the act's block were added, and no others
pub record AddsBlock (a : Act) (before after : List Event) : Type 0 where
  pub events : List Event
  pub is : after ≡ events ++ before
  pub are : list_all (is_event_of a) events ≡ true

-- the parts that an act assigns, in this order
abbrev pub assigned_parts : Given → List Event → Act → List ℕ
assigned_parts given h (act.Assign p) = p ∷ []
assigned_parts given h (act.Revoke p) = []
assigned_parts given h (act.Lose p) = []
assigned_parts given h act.Crash = held_parts given h
