-- Where an engine stands, as the crates see it that make several of its calls.
use Rattle.std.specs.Prelude.{ℕ, ◌≡◌, List, Result}
use Rattle.pc_model.specs.declared.event.Event.{Event}
use Rattle.pc_model.specs.Broker.{Broker}
use Rattle.pc_engine.specs.declared.fault.EngineFault.{EngineFault}
use Rattle.pc_engine.specs.Engine.{EngineView}
use Rattle.pc_engine.specs.Effect.{Step, Does}

-- where an engine stands: its history, and of its link what the broker stores, as far as that is
-- told, and how often it has failed
pub record Stand : Type 0 where
  pub history : List Event
  pub store : Broker
  pub faults : ℕ

abbrev pub stand_of : {L T : Type 0} → (L → Broker) → (L → ℕ) → EngineView L T → Stand
stand_of store faults e = record {
  history = e.journal.events;
  store = store e.link;
  faults = faults e.link;
}

-- a call did this step, which asks nothing of the link
pub record DoesAlone {A : Type 0} (step : Step A) (before after : Stand)
    (answer : Result A EngineFault) : Type 0 where
  pub does : Does answer step before.history after.history
  pub store : after.store ≡ before.store
  pub faults : after.faults ≡ before.faults
