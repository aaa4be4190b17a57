-- Which parts are held after some steps.
use Rattle.std.specs.Prelude.{ℕ, Bool, true, false, ◌==◌, if◌then◌else◌, List, fold}
use Rattle.std.specs.List.{list_any}
use Rattle.pc_model.specs.declared.event.Event.{Event}
use Rattle.pc_model.specs.declared.step.Act.{Act}
use Rattle.pc_model.specs.declared.step.Act.TheVariants as act
use Rattle.pc_model.specs.declared.step.Step.{Step}
use Rattle.pc_model.specs.Given.{Given}
use Rattle.pc_model.specs.Steps.{place_of}

-- whether the part is held after an act: a crash assigns again what was held
abbrev pub held_by : ℕ → Bool → Act → Bool
held_by p held (act.Assign q) = if q == p then true else held
held_by p held (act.Revoke q) = if q == p then false else held
held_by p held (act.Lose q) = if q == p then false else held
held_by p held act.Crash = held

-- whether it is held after these steps
abbrev pub held_after : List Step → ℕ → Bool
held_after steps p = fold (λ held step. held_by p held step.act) false steps

-- whether the block of a crash still has to assign the part again
abbrev pub is_left : Given → List Event → ℕ → Bool
is_left given h p = list_any (λ q. q == p) (place_of given h).left
