-- Which history a ledger belongs to.
use Rattle.std.specs.Prelude.{ℕ, ◌≡◌, ◌<◌, ◌≤◌, true, List, length, Some, nat_eq, option_map, slice_get, slice_index_or, unwrap_or}
use Rattle.std.specs.HashMap.{get, spare}
use Rattle.pc_model.specs.declared.event.Event.{Event}
use Rattle.pc_model.specs.Given.{Given}
use Rattle.pc_model.specs.Jobs.{has_ended, is_draining}
use Rattle.pc_model.specs.Epochs.{epoch_of, is_held}
use Rattle.pc_model.specs.Retry.{failures_of}
use Rattle.pc_model.specs.Stored.{may_store}
use Rattle.pc_model.specs.Run.{has_unstored_success, new_successes, success_count}
use Rattle.pc_state.specs.declared.ledger.Ledger.{Ledger}
use Rattle.pc_state.specs.declared.ledger.PartLedger.{PartLedger}
use Rattle.pc_state.specs.OpenJobs.{out_of}

-- what is kept of a part that is held: the position of the first commit that may be stored, which is
-- the last that was stored for certain, what succeeded since, how many of its jobs are out, and how
-- often each offset failed
pub record CountsPart (given : Given) (h : List Event) (p : ℕ) (part : PartLedger) : Type 0 where
  pub stored : option_map (λ c. c.position) (slice_get (may_store given h p) 0) ≡ Some part.stored
  pub fresh : part.fresh ≡ new_successes h p (epoch_of h p)
  pub unstored : part.unstored ≡ has_unstored_success h p (epoch_of h p)
  pub out : part.out ≡ out_of h p
  pub failed : (o : ℕ) → unwrap_or (get nat_eq part.failed o) 0 ≡ failures_of h p o
  pub places : part.out ≤ spare part.failed

-- the ledger is that of the history
pub record Counts (given : Given) (h : List Event) (ledger : Ledger) : Type 0 where
  pub count : length ledger.parts.items ≡ length given.logs
  pub each : (p : ℕ) (d : PartLedger) → p < length given.logs → is_held h p ≡ true
      → CountsPart given h p (slice_index_or ledger.parts.items p d)
  pub successes : ledger.successes ≡ success_count h
  pub drains : ledger.drains ≡ is_draining h
  pub ended : ledger.ended ≡ has_ended h

-- there is a place for one more job of the part
abbrev pub HasPlace : ℕ → Ledger → Type 0
HasPlace p ledger = (d : PartLedger) → (slice_index_or ledger.parts.items p d).out
    < spare (slice_index_or ledger.parts.items p d).failed
