-- What an engine's type keeps after an event for which the link is not asked.
use Rattle.std.proofs.Common.{◌≡◌, ℕ, ◌+◌, ◌≤◌, Bool, false, List, [], ◌∷◌, length, Option, None, refl, sym, subst, arith, inl, inr}
use Rattle.std.proofs.lemmas.Bool.{cases_lt, lt-ltb}
use Rattle.pc_model.specs.declared.commit.Commit.{Commit}
use Rattle.pc_model.specs.declared.event.Event.{Event}
use Rattle.pc_model.specs.declared.setup.Setup.{Setup}
use Rattle.pc_model.specs.Record.{Record}
use Rattle.pc_model.specs.Given.{Given}
use Rattle.pc_model.specs.Jobs.{open_jobs}
use Rattle.pc_model.specs.Known.{assigned_by}
use Rattle.pc_model.specs.Stored.{may_store}
use Rattle.pc_laws.specs.Lists.{In}
use Rattle.pc_laws.proofs.Lists.{true-not-false}
use Rattle.pc_state.specs.declared.state.State.{State}
use Rattle.pc_task.specs.Jobs.{Outcomes}
use Rattle.pc_engine.specs.Effect.{is_full}
use Rattle.pc_engine.specs.Engine.{IsEngine, first_assigned, given_by}
use Rattle.pc_state.specs.State.{Knows}
use Rattle.pc_engine.proofs.EngineLemmas.{given_by-same, option_or-none, start-kept}

-- an event that assigns nothing leaves what the run was given
pub given_by-event : (setup : Setup) (logs : List (Option (List Record))) (h : List Event) (v : Event)
    (told : Bool) (outcomes : Outcomes) (kept : ℕ → Commit) → ((q : ℕ) → assigned_by v q ≡ None)
    → given_by setup logs (v ∷ h) told outcomes kept ≡ given_by setup logs h told outcomes kept
given_by-event setup logs h v told outcomes kept quiet = given_by-same setup logs h (v ∷ h) told outcomes kept kept
    (λ is q. rw (quiet q, option_or-none (first_assigned h q)) refl)

-- an event that stores nothing and ends nothing
pub IsEngine-event : (given : Given) (kept : ℕ → Commit) (state new : State) (room room' : ℕ)
    (h : List Event) (v : Event) → IsEngine given kept state room h → Knows given (v ∷ h) new
    → ((p : ℕ) → may_store given (v ∷ h) p ≡ may_store given h p)
    → length (open_jobs (v ∷ h)) ≤ room' → IsEngine given kept new room' (v ∷ h)
IsEngine-event given kept state new room room' h v keeps knows same enough = record {
  knows = knows;
  stored = λ told p below. subst (λ (cs : List Commit). In (kept p) cs) (sym (same p)) (keeps.stored told p below);
  room = enough;
}

-- so many more events are within the limit
pub room-limit : (h : List Event) (more : ℕ) → is_full h more ≡ false
    → length h + length (open_jobs h) + more ≤ 4000000
room-limit h more room = elim (cases_lt 4000000 (length h + length (open_jobs h) + more)) [
  | inl full ↦ true-not-false (is_full h more) (lt-ltb 4000000 _ full) room
  | inr fits ↦ omega arith
]

-- ---- no event yet

module _ (setup : Setup) (logs : List (Option (List Record))) (told : Bool) (outcomes : Outcomes) (kept : ℕ → Commit)
    (state : State) (starts : (given : Given) → given.setup ≡ setup → given.logs ≡ logs
    → Knows given [] state) where
  known : Knows (given_by setup logs [] told outcomes kept) [] state
  known = starts (given_by setup logs [] told outcomes kept) refl refl

  pub start-given : given_by state.setup.now state.logs.now [] told outcomes kept
      ≡ given_by setup logs [] told outcomes kept
  start-given = rw (← known.setup, ← known.logs) refl

  pub IsEngine-start : (room : ℕ)
      → IsEngine (given_by state.setup.now state.logs.now [] told outcomes kept) kept state room []
  IsEngine-start room = rw start-given (record {
    knows = known;
    stored = λ told_is p below. inl (start-kept setup logs p told outcomes kept told_is below);
    room = omega arith;
  })
