-- What an engine's type keeps after an assignment: the link keeps what it kept, and gave what it
-- keeps.
use Rattle.std.proofs.Common.{◌≡◌, ℕ, ◌+◌, ◌≤◌, ◌<◌, Bool, true, ◌==◌, List, ◌∷◌, length, None, Ok, refl, ap, sym, subst, ◌∙◌, arith, inl, inr}
use Rattle.std.specs.Prelude.{unwrap_or}
use Rattle.std.proofs.lemmas.Bool.{cases_Bool, eqb-true}
use Rattle.pc_model.specs.declared.commit.Commit.{Commit}
use Rattle.pc_model.specs.declared.event.Event.{Event}
use Rattle.pc_model.specs.declared.event.Event.TheVariants.{Assign}
use Rattle.pc_model.specs.Given.{Given}
use Rattle.pc_model.specs.Jobs.{open_jobs}
use Rattle.pc_model.specs.Epochs.{epoch_of}
use Rattle.pc_model.specs.Stored.{may_store}
use Rattle.pc_laws.specs.Lists.{In}
use Rattle.pc_commit.specs.Resume.{map_refusal}
use Rattle.pc_state.specs.declared.state.State.{State}
use Rattle.pc_task.specs.Jobs.{Outcomes}
use Rattle.pc_engine.specs.Effect.{Does, assign_refusal, assign_step}
use Rattle.pc_engine.specs.Engine.{IsEngine, first_assigned}
use Rattle.pc_state.specs.State.{Knows, MayCome}
use Rattle.pc_engine.proofs.EngineEvents.{room-limit}
use Rattle.pc_engine.proofs.EngineLemmas.{In-entry, MayAssign, assign-does, given_by-same, may_assign, option_or-none, unwrap-or-some}
use Rattle.pc_engine.proofs.EngineStep.{given_to, given-known}
use Rattle.pc_laws.proofs.HeldLaw.{log-below}

module _ (state : State) (h : List Event) (told : Bool) (outcomes : Outcomes) (kept : ℕ → Commit) (room : ℕ)
    (keeps : IsEngine (given_to state h told outcomes kept) kept state room h) (p : ℕ)
    (none : assign_refusal (given_to state h told outcomes kept) h p ≡ None) where
  abbrev given : Given
  given = given_to state h told outcomes kept

  may : MayAssign given h p
  may = may_assign given h p none

  pub assign-small : p < 1024
  assign-small = let below = log-below given.logs p may.known in
      omega (arith, below, keeps.knows.few)

  module _ (stored : Commit) (kept' : ℕ → Commit) (gave : told ≡ true → stored ≡ kept p)
      (keeps_all : told ≡ true → (q : ℕ) → kept' q ≡ kept q) where
    abbrev event : Event
    event = Assign p (epoch_of h p + 1) stored.position stored.map

    same-first : told ≡ true → (q : ℕ) → unwrap_or (first_assigned (event ∷ h) q) (kept' q)
        ≡ unwrap_or (first_assigned h q) (kept q)
    same-first is q = elim (cases_Bool (p == q)) [
      | inl same ↦ let part : p ≡ q = eqb-true p q same in
          rw same (unwrap-or-some (first_assigned h q) stored (kept' q) (kept q)
          (gave is ∙ ap kept part))
      | inr apart ↦ rw (apart, option_or-none (first_assigned h q))
          (ap (unwrap_or (first_assigned h q)) (keeps_all is q))
    ]

    stored-assign : told ≡ true → (q : ℕ) → q < length given.logs
        → In (kept' q) (may_store given (event ∷ h) q)
    stored-assign is q below = elim (cases_Bool (p == q)) [
      | inl same ↦ let part : p ≡ q = eqb-true p q same in
          rw same (inl (keeps_all is q ∙ sym (ap kept part) ∙ sym (gave is)))
      | inr apart ↦ rw apart (subst (λ (c : Commit). In c (may_store given h q))
          (sym (keeps_all is q)) (keeps.stored is q below))
    ]

    may-come : MayCome given event h
    may-come = record {
      legal = (
        record {
          known = may.known;
          free = may.free;
          running = may.flows;
          epoch_is = refl;
          stored = λ is. In-entry _ stored
              (rw (gave is) (keeps.stored is p (log-below given.logs p may.known)));
        },
        may.runs,
        keeps.knows.legal,
      );
      limit = let fits = room-limit h 1 may.room in omega (arith, fits);
    }

    module _ (new : State) (knows : MayCome given event h → Knows given (event ∷ h) new)
        (told' : Bool) (same_told : told' ≡ told) (epoch : ℕ) (epoch_is : epoch ≡ epoch_of h p + 1)
        (h1 h' : List Event) (room1 room' n : ℕ) (same : h1 ≡ h)
        (after : h' ≡ Assign p epoch stored.position stored.map ∷ h1)
        (count : n ≡ length (open_jobs h)) (enough : n + 1 ≤ room1) (less : room' + 1 ≡ room1) where
      event-is : h' ≡ event ∷ h
      event-is = after
          ∙ ap (λ (e : ℕ). Assign p e stored.position stored.map ∷ h1) epoch_is
          ∙ ap (λ (k : List Event). event ∷ k) same

      pub assigned-given : given_to new h' told' outcomes kept' ≡ given
      assigned-given = ap (λ (b : Bool). given_to new h' b outcomes kept') same_told
          ∙ ap (λ (k : List Event). given_to new k told outcomes kept') event-is
          ∙ given_by-same new.setup.now new.logs.now h (event ∷ h) told outcomes kept kept' same-first
          ∙ given-known state new h (event ∷ h) told outcomes kept (knows may-come)

      pub assigned-keeps : IsEngine (given_to new h' told' outcomes kept') kept' new room' h'
      assigned-keeps = subst (λ (x : Given). IsEngine x kept' new room' h') (sym assigned-given)
          (rw event-is (record {
            knows = knows may-come;
            stored = λ is q below. stored-assign is q below;
            room = omega (arith, count, enough, less);
          }))

      pub assigned-does : map_refusal state.setup.now.settings.bad_map stored ≡ None
          → Does {A = Unit {0}} (Ok tt) (assign_step given h p (Ok stored)) h h'
      assigned-does reads = assign-does state.setup.now state.logs.now h told outcomes kept p
          (epoch_of h p) stored h' none reads refl event-is
