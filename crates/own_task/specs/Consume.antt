-- What a run of this program is given, and what it leaves.
use Rattle.std.specs.Prelude.{ℕ, ◌≡◌, true, List, [], Option}
use Rattle.pc_model.specs.declared.event.Event.{Event}
use Rattle.pc_model.specs.declared.setup.Setup.{Setup}
use Rattle.pc_model.specs.Broker.{Broker}
use Rattle.pc_model.specs.Given.{Given, has_log}
use Rattle.pc_model.specs.Lawful.{IsLegal}
use Rattle.pc_model.specs.Record.{Record}
use Rattle.pc_model.specs.Sound.{IsOrderly, IsSound}
use Rattle.pc_model.specs.Stored.{may_store}
use Rattle.pc_laws.specs.Lists.{In}
use Rattle.pc_offset_client.specs.Client.{kept_for}
use Rattle.pc_engine.specs.Engine.{EngineView, given_by, given_of}
use Rattle.own_task.specs.declared.Doubled.{Doubled}
use Rattle.own_task.specs.Doubled.{outcome_of}

-- what a run is given: the setup, the logs, what the broker stores, and the outcomes of `Doubled`
abbrev pub given_to : Setup → List (Option (List Record)) → Broker → Given
given_to setup logs store = given_by setup logs [] true outcome_of (kept_for store)

-- the same of an engine
abbrev pub given_in : EngineView Broker Doubled → Given
given_in engine = given_of (λ _. outcome_of) engine

-- what a run leaves: its history, and the broker
pub record IsConsumed (given : Given) (store : Broker) (h : List Event) : Type 0 where
  -- each event was lawful: a result is the outcome of `Doubled` for its job
  pub legal : IsLegal given h
  -- no commit passes over a record that was not done
  pub sound : IsSound given h
  -- the records of one ordering key ran singly and in order
  pub orderly : IsOrderly given h
  -- the broker has one of the commits that may be stored
  pub stored : (p : ℕ) → has_log given p ≡ true → In (kept_for store p) (may_store given h p)
