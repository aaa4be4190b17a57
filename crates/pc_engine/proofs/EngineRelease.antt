-- What an engine's type keeps after a loss, a revocation or a crash.
use Rattle.std.proofs.Common.{◌≡◌, ℕ, ◌+◌, ◌≤◌, Bool, true, false, List, ◌∷◌, length, Option, Some, None, Result, Ok, Err, refl, ap, ◌∙◌, arith, inl, inr, cond}
use Rattle.std.proofs.lemmas.Bool.{cases_Bool}
use Rattle.pc_model.specs.declared.commit.Commit.{Commit}
use Rattle.pc_model.specs.declared.event.Event.{Event}
use Rattle.pc_model.specs.declared.event.Event.TheVariants.{Crash, Lost}
use Rattle.pc_model.specs.Given.{Given, has_log}
use Rattle.pc_model.specs.Jobs.{has_ended, open_jobs}
use Rattle.pc_model.specs.Epochs.{epoch_of, is_held}
use Rattle.pc_task.specs.Jobs.{Outcomes}
use Rattle.pc_engine.specs.declared.fault.EngineFault.{EngineFault}
use Rattle.pc_engine.specs.declared.fault.EngineFault.TheVariants.{Closed, JournalFull, NotHeld, UnknownPart}
use Rattle.pc_state.specs.declared.state.State.{State}
use Rattle.pc_engine.specs.Effect.{Does, held_refusal, is_full, lose_after, lose_step, refused_by}
use Rattle.pc_engine.specs.Engine.{IsEngine}
use Rattle.pc_state.specs.State.{Knows, MayCome}
use Rattle.pc_engine.proofs.EngineEvents.{room-limit}
use Rattle.pc_engine.proofs.EngineLemmas.{refused-none}
use Rattle.pc_engine.proofs.EngineStep.{given_to, given-event, keeps-event}
use Rattle.pc_engine.proofs.EngineTake.{not-full}

-- ---- what a refusal is

module _ (given : Given) (h : List Event) (p more : ℕ) (runs : has_ended h ≡ false) where
  -- without a log the part is not known
  release-unknown : (r : Result (Unit {0}) EngineFault) (f : EngineFault) → r ≡ Err f
      → f ≡ UnknownPart → has_log given p ≡ false → r ≡ refused_by (held_refusal given h p more)
  release-unknown r f was is unknown = rw (runs, unknown) (was ∙ ap (λ (x : EngineFault). Err x) is)

  -- a part that is not held is not given back
  release-free : has_log given p ≡ true → false ≡ is_held h p
      → ◌≡◌ {A = Result (Unit {0}) EngineFault} (Err NotHeld)
      (refused_by (held_refusal given h p more))
  release-free known free = rw (runs, known, ← free) refl

  room-is : (b : Bool) → ◌≡◌ {A = Result (Unit {0}) EngineFault}
      (cond b (Err JournalFull) (Ok tt)) (refused_by (cond b (Some JournalFull) None))
  room-is true = refl
  room-is false = refl

  -- and a held one but for want of room
  release-room : (r : Result (Unit {0}) EngineFault) → has_log given p ≡ true
      → true ≡ is_held h p → r ≡ cond (is_full h more) (Err JournalFull) (Ok tt)
      → r ≡ refused_by (held_refusal given h p more)
  release-room r known held was = rw (runs, known, ← held) (was ∙ room-is (is_full h more))

-- after an end no part is given back
release-closed : (given : Given) (h : List Event) (p more : ℕ) (r : Result (Unit {0}) EngineFault)
    (f : EngineFault) → r ≡ Err f → f ≡ Closed → has_ended h ≡ true
    → r ≡ refused_by (held_refusal given h p more)
release-closed given h p more r f was is ended = rw ended (was ∙ ap (λ (x : EngineFault). Err x) is)

-- a part that may be given back is held, and there is a place for the events
pub may-release : (given : Given) (h : List Event) (p more : ℕ) (u : Unit {0})
    → ◌≡◌ {A = Result (Unit {0}) EngineFault} (Ok u) (refused_by (held_refusal given h p more))
    → (is_held h p ≡ true) × (is_full h more ≡ false) × (has_ended h ≡ false)
may-release given h p more u ok = elim (cases_Bool (has_ended h)) [
  | inl ended ↦ let out = rw ended at ok in cc out
  | inr runs ↦ elim (cases_Bool (has_log given p)) [
    | inr unknown ↦ let out = rw (runs, unknown) at ok in cc out
    | inl known ↦ elim (cases_Bool (is_held h p)) [
      | inr free ↦ let out = rw (runs, known, free) at ok in cc out
      | inl held ↦ elim (cases_Bool (is_full h more)) [
        | inl full ↦ let out = rw (runs, known, held, full) at ok in cc out
        | inr room ↦ (held, room, runs)
      ]
    ]
  ]
]

-- ---- the events

module _ (state : State) (h : List Event) (told : Bool) (outcomes : Outcomes) (kept : ℕ → Commit) (room : ℕ)
    (keeps : IsEngine (given_to state h told outcomes kept) kept state room h) where
  abbrev given : Given
  given = given_to state h told outcomes kept

  may-lose : (p : ℕ) → is_held h p ≡ true → is_full h 1 ≡ false → has_ended h ≡ false
      → MayCome given (Lost p (epoch_of h p)) h
  may-lose p held room_left runs = record {
    legal = (record { held = held; epoch_is = refl }, runs, keeps.knows.legal);
    limit = let limit = room-limit h 1 room_left in omega (arith, limit);
  }

  module _ (new : State) (h1 h' : List Event) (p epoch : ℕ) (u : Unit {0})
      (ok : ◌≡◌ {A = Result (Unit {0}) EngineFault} (Ok u)
      (refused_by (held_refusal given h p 1)))
      (is : is_held h p ≡ true → epoch ≡ epoch_of h p)
      (knows : is_held h p ≡ true → MayCome given (Lost p (epoch_of h p)) h
      → Knows given (Lost p (epoch_of h p) ∷ h) new)
      (same : h1 ≡ h) (after : h' ≡ Lost p epoch ∷ h1) where
    knows-loss : Knows given (Lost p (epoch_of h p) ∷ h) new
    knows-loss = let may = may-release given h p 1 u ok in
        knows may.0 (may-lose p may.0 may.1 may.2)

    pub lost-events : h' ≡ Lost p (epoch_of h p) ∷ h
    lost-events = after ∙ ap (λ (k : List Event). Lost p epoch ∷ k) same
        ∙ ap (λ (e : ℕ). Lost p e ∷ h) (is (may-release given h p 1 u ok).0)

    pub lost-given : given_to new h' told outcomes kept ≡ given
    lost-given = given-event state new h h' told outcomes kept (Lost p (epoch_of h p)) (λ q. refl)
        knows-loss lost-events

    pub lost-keeps : (room1 room' n : ℕ) → n ≡ length (open_jobs h) → n + 1 ≤ room1
        → room' + 1 ≡ room1 → IsEngine (given_to new h' told outcomes kept) kept new room' h'
    lost-keeps room1 room' n count enough less =
        keeps-event state new h h' told outcomes kept room room' (Lost p (epoch_of h p)) keeps (λ q. refl)
        knows-loss (λ q. refl) (omega (arith, count, enough, less)) lost-events

    pub lost-does : Does (Ok tt) (lose_step given h p) h h'
    lost-does = lost-after (held_refusal given h p 1) (refused-none u (held_refusal given h p 1) ok)
      where
        lost-after : (o : Option EngineFault) → o ≡ None → Does (Ok tt) (lose_after h p o) h h'
        lost-after None none = (refl, lost-events)
        lost-after (Some f) none = cc

  may-crash : is_full h 1 ≡ false → has_ended h ≡ false → MayCome given Crash h
  may-crash room_left runs = record {
    legal = (tt, runs, keeps.knows.legal);
    limit = let limit = room-limit h 1 room_left in omega (arith, limit);
  }

  pub crashed-keeps : (new : State) (h1 h' : List Event) (room1 room' n : ℕ) (u : Unit {0})
      → ◌≡◌ {A = Result (Unit {0}) EngineFault} (Ok u)
      (cond (is_full h 1) (Err JournalFull) (Ok tt))
      → has_ended h ≡ false → (MayCome given Crash h → Knows given (Crash ∷ h) new)
      → h1 ≡ h → h' ≡ Crash ∷ h1 → n ≡ length (open_jobs h) → n + 1 ≤ room1
      → room' + 1 ≡ room1 → IsEngine (given_to new h' told outcomes kept) kept new room' h'
  crashed-keeps new h1 h' room1 room' n u room_left runs knows same after count enough less =
      keeps-event state new h h' told outcomes kept room room' Crash keeps (λ q. refl)
      (knows (may-crash (not-full u (is_full h 1) room_left) runs)) (λ q. refl)
      (omega (arith, count, enough, less))
      (after ∙ ap (λ (k : List Event). Crash ∷ k) same)
