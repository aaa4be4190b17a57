-- What an engine's type keeps after a tick.
use Rattle.std.proofs.Common.{◌≡◌, ℕ, ◌+◌, ◌≤◌, ◌<◌, Bool, false, List, ◌∷◌, length, Result, Ok, Err, refl, ap, ◌∙◌, arith, cond}
use Rattle.pc_model.specs.declared.commit.Commit.{Commit}
use Rattle.pc_model.specs.declared.event.Event.{Event}
use Rattle.pc_model.specs.declared.event.Event.TheVariants.{Tick}
use Rattle.pc_model.specs.Given.{Given}
use Rattle.pc_model.specs.Jobs.{has_ended, open_jobs}
use Rattle.pc_model.specs.Retry.{now_of}
use Rattle.pc_state.specs.declared.state.State.{State}
use Rattle.pc_state.specs.State.{Knows, MayCome}
use Rattle.pc_task.specs.Jobs.{Outcomes}
use Rattle.pc_engine.specs.declared.fault.EngineFault.{EngineFault}
use Rattle.pc_engine.specs.declared.fault.EngineFault.TheVariants.{JournalFull}
use Rattle.pc_engine.specs.Effect.{is_full}
use Rattle.pc_engine.specs.Engine.{IsEngine}
use Rattle.pc_engine.proofs.EngineEvents.{room-limit}
use Rattle.pc_engine.proofs.EngineStep.{given_to, keeps-event}
use Rattle.pc_engine.proofs.EngineTake.{not-full}

module _ (state : State) (h : List Event) (told : Bool) (outcomes : Outcomes) (kept : ℕ → Commit) (room : ℕ)
    (keeps : IsEngine (given_to state h told outcomes kept) kept state room h) (n : ℕ)
    (later : state.clock < n) (runs : has_ended h ≡ false) where
  abbrev given : Given
  given = given_to state h told outcomes kept

  after-now : now_of h < n
  after-now = let clock = keeps.knows.clock in omega (arith, later, clock)

  pub may-tick : is_full h 1 ≡ false → MayCome given (Tick n) h
  may-tick room_left = record {
    legal = (after-now, runs, keeps.knows.legal);
    limit = let limit = room-limit h 1 room_left in omega (arith, limit);
  }

  module _ (new : State) (h1 h' : List Event) (u : Unit {0})
      (room_left : ◌≡◌ {A = Result (Unit {0}) EngineFault} (Ok u)
      (cond (is_full h 1) (Err JournalFull) (Ok tt)))
      (knows : MayCome given (Tick n) h → Knows given (Tick n ∷ h) new)
      (same : h1 ≡ h) (after : h' ≡ Tick n ∷ h1) where
    known : Knows given (Tick n ∷ h) new
    known = knows (may-tick (not-full u (is_full h 1) room_left))

    events : h' ≡ Tick n ∷ h
    events = after ∙ ap (λ (k : List Event). Tick n ∷ k) same

    pub ticked-keeps : (room1 room' m : ℕ) → m ≡ length (open_jobs h) → m + 1 ≤ room1
        → room' + 1 ≡ room1 → IsEngine (given_to new h' told outcomes kept) kept new room' h'
    ticked-keeps room1 room' m count enough less =
        keeps-event state new h h' told outcomes kept room room' (Tick n) keeps (λ q. refl) known (λ q. refl)
        (omega (arith, count, enough, less)) events
