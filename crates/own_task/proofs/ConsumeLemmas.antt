-- What a run leaves, from what its engine left, and without an engine.
use Rattle.std.proofs.Common.{◌≡◌, ℕ, true, List}
use Rattle.pc_model.specs.declared.event.Event.{Event}
use Rattle.pc_model.specs.Broker.{Broker}
use Rattle.pc_model.specs.Given.{Given, has_log}
use Rattle.pc_model.specs.Lawful.{IsLegal}
use Rattle.pc_model.specs.Stored.{may_store}
use Rattle.pc_laws.specs.Lists.{In}
use Rattle.pc_laws.proofs.OrderlyLaw.{is_orderly}
use Rattle.pc_laws.proofs.SoundLaw.{is_sound}
use Rattle.pc_offset_client.specs.Client.{kept_for}
use Rattle.own_task.specs.Consume.{IsConsumed}

-- by the laws of every legal history
pub consumed : (given : Given) (store : Broker) (h : List Event) → given.is_told ≡ true
    → IsLegal given h
    → ((p : ℕ) → has_log given p ≡ true → In (kept_for store p) (may_store given h p))
    → IsConsumed given store h
consumed given store h told legal stored = record {
  legal = legal;
  sound = is_sound given h told legal;
  orderly = is_orderly given h legal;
  stored = stored;
}
