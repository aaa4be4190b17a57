-- What an engine's type keeps after an event that assigns, stores and ends nothing.
use Rattle.std.proofs.Common.{◌≡◌, ℕ, ◌≤◌, Bool, List, ◌∷◌, length, Option, None, refl, ap, sym, subst, ◌∙◌}
use Rattle.pc_model.specs.declared.commit.Commit.{Commit}
use Rattle.pc_model.specs.declared.event.Event.{Event}
use Rattle.pc_model.specs.declared.setup.Setup.{Setup}
use Rattle.pc_model.specs.Record.{Record}
use Rattle.pc_model.specs.Given.{Given}
use Rattle.pc_model.specs.Jobs.{open_jobs}
use Rattle.pc_model.specs.Known.{assigned_by}
use Rattle.pc_model.specs.Stored.{may_store}
use Rattle.pc_state.specs.declared.state.State.{State}
use Rattle.pc_task.specs.Jobs.{Outcomes}
use Rattle.pc_engine.specs.Engine.{IsEngine, given_by}
use Rattle.pc_state.specs.State.{Knows}
use Rattle.pc_engine.proofs.EngineEvents.{IsEngine-event, given_by-event}

-- what an engine with this state and journal was given
abbrev pub given_to : State → List Event → Bool → Outcomes → (ℕ → Commit) → Given
given_to state h told outcomes kept = given_by state.setup.now state.logs.now h told outcomes kept

-- the setup and the logs stay
pub given-known : (state new : State) (h k : List Event) (told : Bool) (outcomes : Outcomes) (kept : ℕ → Commit)
    → Knows (given_to state h told outcomes kept) k new
    → given_to new h told outcomes kept ≡ given_to state h told outcomes kept
given-known state new h k told outcomes kept knows =
    ap (λ (s : Setup). given_by s new.logs.now h told outcomes kept) (sym knows.setup)
    ∙ ap (λ (logs : List (Option (List Record))). given_by state.setup.now logs h told outcomes kept)
    (sym knows.logs)

-- the engine was given the same
pub given-event : (state new : State) (h h' : List Event) (told : Bool) (outcomes : Outcomes) (kept : ℕ → Commit)
    (v : Event) → ((q : ℕ) → assigned_by v q ≡ None)
    → Knows (given_to state h told outcomes kept) (v ∷ h) new → h' ≡ v ∷ h
    → given_to new h' told outcomes kept ≡ given_to state h told outcomes kept
given-event state new h h' told outcomes kept v quiet knows after =
    ap (λ (k : List Event). given_to new k told outcomes kept) after
    ∙ given_by-event new.setup.now new.logs.now h v told outcomes kept quiet
    ∙ given-known state new h (v ∷ h) told outcomes kept knows

-- and its type keeps what it has to
pub keeps-event : (state new : State) (h h' : List Event) (told : Bool) (outcomes : Outcomes) (kept : ℕ → Commit)
    (room room' : ℕ) (v : Event) → IsEngine (given_to state h told outcomes kept) kept state room h
    → ((q : ℕ) → assigned_by v q ≡ None) → Knows (given_to state h told outcomes kept) (v ∷ h) new
    → ((p : ℕ) → may_store (given_to state h told outcomes kept) (v ∷ h) p
    ≡ may_store (given_to state h told outcomes kept) h p)
    → length (open_jobs (v ∷ h)) ≤ room' → h' ≡ v ∷ h
    → IsEngine (given_to new h' told outcomes kept) kept new room' h'
keeps-event state new h h' told outcomes kept room room' v keeps quiet knows same enough after =
    subst (λ (k : List Event). IsEngine (given_to new k told outcomes kept) kept new room' k) (sym after)
    (subst (λ (given : Given). IsEngine given kept new room' (v ∷ h))
    (sym (given-event state new h (v ∷ h) told outcomes kept v quiet knows refl))
    (IsEngine-event (given_to state h told outcomes kept) kept state new room room' h v keeps knows same
    enough))
