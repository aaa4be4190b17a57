-- What an engine's type keeps after an event that begins a drain or ends the history.
use Rattle.std.proofs.Common.{◌≡◌, ℕ, ◌+◌, ◌≤◌, Bool, false, List, ◌∷◌, length, None, Result, Ok, Err, ap, ◌∙◌, arith, cond}
use Rattle.pc_model.specs.declared.commit.Commit.{Commit}
use Rattle.pc_model.specs.declared.event.Event.{Event}
use Rattle.pc_model.specs.Given.{Given}
use Rattle.pc_model.specs.Jobs.{has_ended, open_jobs}
use Rattle.pc_model.specs.Known.{assigned_by}
use Rattle.pc_model.specs.Lawful.{IsLawful}
use Rattle.pc_model.specs.Stored.{may_store}
use Rattle.pc_task.specs.Jobs.{Outcomes}
use Rattle.pc_state.specs.declared.state.State.{State}
use Rattle.pc_state.specs.State.{Knows, MayCome}
use Rattle.pc_engine.specs.declared.fault.EngineFault.{EngineFault}
use Rattle.pc_engine.specs.declared.fault.EngineFault.TheVariants.{JournalFull}
use Rattle.pc_engine.specs.Effect.{is_full}
use Rattle.pc_engine.specs.Engine.{IsEngine}
use Rattle.pc_engine.proofs.EngineEvents.{room-limit}
use Rattle.pc_engine.proofs.EngineStep.{given_to, keeps-event}
use Rattle.pc_engine.proofs.EngineTake.{not-full}

module _ (state : State) (h : List Event) (told : Bool) (outcomes : Outcomes) (kept : ℕ → Commit)
    (room : ℕ) (keeps : IsEngine (given_to state h told outcomes kept) kept state room h)
    (runs : has_ended h ≡ false) (v : Event) (quiet : (q : ℕ) → assigned_by v q ≡ None)
    (stored : (p : ℕ) → may_store (given_to state h told outcomes kept) (v ∷ h) p
    ≡ may_store (given_to state h told outcomes kept) h p)
    (jobs : open_jobs (v ∷ h) ≡ open_jobs h)
    (lawful : IsLawful (given_to state h told outcomes kept) v h) where
  abbrev given : Given
  given = given_to state h told outcomes kept

  may-come : is_full h 1 ≡ false → MayCome given v h
  may-come room_left = record {
    legal = (lawful, runs, keeps.knows.legal);
    limit = let limit = room-limit h 1 room_left in let same = ap length jobs in
        omega (arith, limit, same);
  }

  pub ended-keeps : (new : State) (h1 h' : List Event) (u : Unit {0})
      → ◌≡◌ {A = Result (Unit {0}) EngineFault} (Ok u) (cond (is_full h 1) (Err JournalFull) (Ok tt))
      → (MayCome given v h → Knows given (v ∷ h) new)
      → h1 ≡ h → h' ≡ v ∷ h1 → (room1 room' m : ℕ) → m ≡ length (open_jobs h) → m + 1 ≤ room1
      → room' + 1 ≡ room1 → IsEngine (given_to new h' told outcomes kept) kept new room' h'
  ended-keeps new h1 h' u room_left knows same after room1 room' m count enough less =
      keeps-event state new h h' told outcomes kept room room' v keeps quiet
      (knows (may-come (not-full u (is_full h 1) room_left))) stored
      (let fewer = ap length jobs in omega (arith, count, enough, less, fewer))
      (after ∙ ap (λ (k : List Event). v ∷ k) same)
