-- What clauses say of a lock and its passes.
use Rattle.std.specs.Prelude.{◌≡◌, ℕ, List, [], ◌∷◌, None, Some}
use Rattle.pc_model.specs.declared.event.Event.{Event}
use Rattle.pc_state_lock.specs.Heading.{Heading}
use Rattle.pc_state_lock.specs.Views.{with_ticket}
use Rattle.pc_state_lock.specs.declared.lock.StateLock.{StateLock}
use Rattle.pc_state_lock.specs.declared.pass.Pass.{Pass}
use Rattle.pc_state_lock.specs.declared.view.Stage.TheVariants.{Rests, Turns}

module _ {V : Type 0} where
  -- the heading of the lock, which all of its values have
  abbrev pub heading_of : (V → Heading) → StateLock V → Heading
  heading_of heading lock = heading lock.table.shared.key.value

  -- the events that the pass has seen, the newest first
  abbrev pub seen : Pass V → List Event
  seen pass = pass.seat.me.0.seen

  -- the spans of the pass's turns, the latest first
  abbrev pub mine : Pass V → List (ℕ × ℕ)
  mine pass = pass.seat.me.0.mine

  -- it is a pass of this lock
  pub record IsPassOf (lock : StateLock V) (pass : Pass V) : Type 0 where
    pub same : pass.seat.table_id ≡ lock.table.shared.table_id
    pub start : pass.seat.me.0.start ≡ Some lock.table.shared.key.value
    pub told : pass.seat.me.0.told ≡ []

  -- the pass has no turn, and waits for none
  pub record IsAtRest (pass : Pass V) : Type 0 where
    pub stage : pass.seat.me.0.stage ≡ Rests
    pub slots : pass.seat.me.1 ≡ []

  -- the pass has the turn, and the value is out of its slot
  pub record HasTurn (pass : Pass V) : Type 0 where
    pub ticket : ℕ
    pub stage : pass.seat.me.0.stage ≡ Turns ticket
    pub slots : pass.seat.me.1 ≡ (0, None) ∷ []

  -- the pass knows what it knew
  pub record IsAsBefore (old new : Pass V) : Type 0 where
    pub same : new.seat.table_id ≡ old.seat.table_id
    pub knows : new.seat.me ≡ old.seat.me

  -- the pass has drawn a ticket, and nothing else has changed
  pub record HasDrawn (ticket : ℕ) (old new : Pass V) : Type 0 where
    pub same : new.seat.table_id ≡ old.seat.table_id
    pub knows : new.seat.me ≡ (with_ticket ticket old.seat.me.0, [])
