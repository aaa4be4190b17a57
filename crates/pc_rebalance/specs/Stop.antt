-- At which part a step stops whose assignment is refused.
use Rattle.std.specs.Prelude.{ℕ, ◌≡◌, ◌≤◌, Bool, true, not, List, Option, Some, None, Err, find}
use Rattle.pc_model.specs.declared.event.Event.{Event}
use Rattle.pc_model.specs.Given.{Given}
use Rattle.pc_model.specs.Epochs.{is_held}
use Rattle.pc_engine.specs.declared.fault.EngineFault.{EngineFault}
use Rattle.pc_engine.specs.declared.fault.EngineFault.TheVariants.{BadMap, Client}
use Rattle.pc_engine.specs.Effect.{assign_refusal}
use Rattle.pc_engine.specs.Stand.{Stand}
use Rattle.pc_rebalance.specs.Apply.{Assigns}

-- a fault of one part: its fetch failed, or its stored map does not read
abbrev pub IsOfPart : EngineFault → Type 0
IsOfPart (Client failed) = Unit {0}
IsOfPart (BadMap fault) = Unit {0}
IsOfPart _ = ⊥

-- the first of these parts that is not held
abbrev pub first_free : List Event → List ℕ → Option ℕ
first_free h parts = find (λ p. not (is_held h p)) parts

-- A step that was to assign these parts stops at this one, for which the link was asked: the first of
-- them that is not held after it. Until then what is stored was the same.
pub record StopsAt (told : Bool) (given : Given) (parts : List ℕ) (before after : Stand)
    (fault : EngineFault) (p : ℕ) : Type 0 where
  pub first : first_free after.history parts ≡ Some p
  pub between : Stand
  pub assigns : Assigns told given p between after (Err fault)
  pub asked : assign_refusal given between.history p ≡ None
  pub history : after.history ≡ between.history
  pub store : told ≡ true → between.store ≡ before.store
  pub later : before.faults ≤ between.faults
