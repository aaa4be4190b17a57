-- What every play keeps, however it ends.
use Rattle.std.specs.Prelude.{ℕ, ◌≡◌, true, List}
use Rattle.pc_model.specs.declared.event.Event.{Event}
use Rattle.pc_model.specs.Broker.{Broker}
use Rattle.pc_model.specs.Given.{Given, has_log}
use Rattle.pc_model.specs.Lawful.{IsLegal}
use Rattle.pc_model.specs.Stored.{may_store}
use Rattle.pc_laws.specs.Lists.{In}
use Rattle.pc_offset_client.specs.Client.{kept_for}
use Rattle.pc_engine.specs.Effect.{StoresOnly}

-- a history that is legal, and a link whose broker, where that is told, stores what it may: for a
-- part with a log one of the commits that may be stored, and else what it stored
pub record IsKept (given : Given) (before after : Broker) (h : List Event) : Type 0 where
  pub legal : IsLegal given h
  pub stored : given.is_told ≡ true → (p : ℕ) → has_log given p ≡ true
      → In (kept_for after p) (may_store given h p)
  pub others : given.is_told ≡ true → StoresOnly (has_log given) before after
