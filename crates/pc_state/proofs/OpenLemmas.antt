-- The open records of a part: those that were polled and are incomplete.
use Rattle.std.proofs.Common.{◌≡◌, ℕ, false, not, List, ap}
use Rattle.pc_model.specs.declared.event.Event.{Event}
use Rattle.pc_model.specs.Record.{Record}
use Rattle.pc_model.specs.Given.{Given}
use Rattle.pc_model.specs.Known.{is_complete, polled_records}
use Rattle.pc_model.specs.Run.{open_records}
use Rattle.pc_laws.specs.Lists.{In}
use Rattle.pc_laws.proofs.Lists.{In-filter, In-filtered, not-true}

module _ (given : Given) (h : List Event) (p : ℕ) (r : Record) where
  pub open-polled : In r (open_records given h p)
      → In r (polled_records given h p) × (is_complete h p r.offset ≡ false)
  unfolding open_records
  open-polled i = let at = In-filtered (λ (q : Record). not (is_complete h p q.offset)) r
      (polled_records given h p) i in (at.0, not-true _ at.1)

  pub polled-open : In r (polled_records given h p) → is_complete h p r.offset ≡ false
      → In r (open_records given h p)
  unfolding open_records
  polled-open i waits = In-filter (λ (q : Record). not (is_complete h p q.offset)) r
      (polled_records given h p) i (ap not waits)
