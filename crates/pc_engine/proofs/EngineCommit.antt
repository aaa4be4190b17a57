-- What an engine's type keeps after a commit of a part that was stored or failed: of the other parts
-- the link keeps what it kept, and of this one that or the commit.
use Rattle.std.proofs.Common.{◌≡◌, ℕ, ◌+◌, ◌≤◌, ◌<◌, Bool, true, false, ◌==◌, List, [], ◌∷◌, ◌++◌, length, None, Result, Ok, Err, refl, ap, sym, subst, ◌∙◌, arith, inl, inr, eq-eqb}
use Rattle.std.specs.Prelude.{unwrap_or}
use Rattle.std.proofs.lemmas.Bool.{cases_Bool, eqb-true}
use Rattle.pc_model.specs.declared.commit.Commit.{Commit}
use Rattle.pc_model.specs.declared.commit.SizedCommit.{SizedCommit}
use Rattle.pc_model.specs.declared.event.Event.{Event}
use Rattle.pc_model.specs.declared.event.Event.TheVariants.{Commit as Committed, CommitFailed}
use Rattle.pc_model.specs.Given.{Given}
use Rattle.pc_model.specs.Jobs.{open_jobs}
use Rattle.pc_model.specs.Epochs.{is_held}
use Rattle.pc_model.specs.Known.{assigned_by, commit_of}
use Rattle.pc_model.specs.Lawful.{CommitIsLawful}
use Rattle.pc_model.specs.Stored.{may_store}
use Rattle.pc_model.specs.Broker.{Broker}
use Rattle.pc_laws.specs.Lists.{In}
use Rattle.pc_laws.proofs.Lists.{In-append_left, In-append_right, true-not-false}
use Rattle.pc_offset_client.specs.declared.fault.ClientFault.{ClientFault}
use Rattle.pc_offset_client.specs.declared.fault.ClientFault.TheVariants as client
use Rattle.pc_offset_client.specs.Client.{CommitGives}
use Rattle.pc_task.specs.Jobs.{Outcomes}
use Rattle.pc_engine.specs.declared.engine.Committed.{Committed as Receipt}
use Rattle.pc_engine.specs.declared.fault.EngineFault.TheVariants.{Client}
use Rattle.pc_state.specs.declared.state.State.{State}
use Rattle.pc_engine.specs.Effect.{Does, Step, commit_refusal, commit_step, commit_with}
use Rattle.pc_engine.specs.Engine.{IsEngine, first_assigned}
use Rattle.pc_state.specs.State.{Knows, MayCome}
use Rattle.pc_engine.proofs.EngineEvents.{room-limit}
use Rattle.pc_engine.proofs.EngineLemmas.{KeepsAt, MayCommit, MayKeepAt, failed-other, given_by-same, held-assigned, keeps-others, may_commit, option_or-none, stored-other}
use Rattle.pc_engine.proofs.EngineStep.{given_to, given-known}
use Rattle.pc_laws.proofs.HeldLaw.{log-below}

-- an event that assigns nothing, where the link keeps of the other parts what it kept
given-commit : (new : State) (h : List Event) (v : Event) (told : Bool) (outcomes : Outcomes) (kept kept' : ℕ → Commit)
    (p : ℕ) → is_held h p ≡ true → ((q : ℕ) → assigned_by v q ≡ None)
    → (told ≡ true → (q : ℕ) → (q ≡ p → ⊥) → kept' q ≡ kept q)
    → given_to new (v ∷ h) told outcomes kept' ≡ given_to new h told outcomes kept
given-commit new h v told outcomes kept kept' p held quiet others =
    given_by-same new.setup.now new.logs.now h (v ∷ h) told outcomes kept kept' same-first
  where
    same-first : told ≡ true → (q : ℕ) → unwrap_or (first_assigned (v ∷ h) q) (kept' q)
        ≡ unwrap_or (first_assigned h q) (kept q)
    same-first is q = elim (cases_Bool (q == p)) [
      | inl same ↦ let part : q ≡ p = eqb-true q p same in
          let first = held-assigned h q (rw part held) in
          rw (quiet q, option_or-none (first_assigned h q), first.1) refl
      | inr apart ↦ rw (quiet q, option_or-none (first_assigned h q))
          (ap (unwrap_or (first_assigned h q))
          (others is q (λ (e : q ≡ p). true-not-false (q == p) (eq-eqb q p e) apart)))
    ]

-- a commit that failed for another cause than memory
commit_with-failed : (p : ℕ) (c : SizedCommit) (f : ClientFault) → (f ≡ client.NoMemory → ⊥)
    → commit_with p c (Err f) ≡ record {
      answer = Err (Client f);
      events = CommitFailed p c.commit.position c.commit.map c.size ∷ [];
    }
commit_with-failed p c client.NoMemory lasts = absurd (lasts refl)
commit_with-failed p c f lasts = refl

module _ (state : State) (h : List Event) (told : Bool) (outcomes : Outcomes) (kept : ℕ → Commit) (room : ℕ)
    (keeps : IsEngine (given_to state h told outcomes kept) kept state room h) (p : ℕ)
    (none : commit_refusal (given_to state h told outcomes kept) h p ≡ None) where
  abbrev given : Given
  given = given_to state h told outcomes kept

  may : MayCommit given h p
  may = may_commit given h p none

  commit-below : p < length given.logs
  commit-below = log-below given.logs p may.known

  pub commit-small : p < 1024
  commit-small = omega (arith, commit-below, keeps.knows.few)

  module _ (sized : SizedCommit) (is_commit : sized ≡ commit_of given h p) where
    abbrev stored_event : Event
    stored_event = Committed p sized.commit.position sized.commit.map sized.size

    abbrev failed_event : Event
    failed_event = CommitFailed p sized.commit.position sized.commit.map sized.size

    lawful : CommitIsLawful given h p sized.commit.position sized.commit.map sized.size
    lawful = record { held = may.held; commit_is = sym is_commit }

    fits : length h + 1 + length (open_jobs h) ≤ 4000000
    fits = let room = room-limit h 1 may.room in omega (arith, room)

    pub commit-gives : (b b' : Broker) (outcome : Result (Unit {0}) ClientFault)
        → CommitGives b b' p sized.commit outcome
        → CommitGives b b' p (commit_of given h p).commit outcome
    commit-gives b b' outcome gives = rw (← is_commit) gives

    module _ (kept' : ℕ → Commit) (new : State) (told' : Bool) (same_told : told' ≡ told)
        (h' : List Event) (room' : ℕ) (less : length (open_jobs h) ≤ room') where
      along : (v : Event) → ((q : ℕ) → assigned_by v q ≡ None)
          → (told ≡ true → (q : ℕ) → (q ≡ p → ⊥) → kept' q ≡ kept q)
          → Knows given (v ∷ h) new → h' ≡ v ∷ h → given_to new h' told' outcomes kept' ≡ given
      along v quiet others known after =
          ap (λ (b : Bool). given_to new h' b outcomes kept') same_told
          ∙ ap (λ (k : List Event). given_to new k told outcomes kept') after
          ∙ given-commit new h v told outcomes kept kept' p may.held quiet others
          ∙ given-known state new h (v ∷ h) told outcomes kept known

      other-of : (q : ℕ) → (p == q) ≡ false → q ≡ p → ⊥
      other-of q apart e = true-not-false (p == q) (eq-eqb p q (sym e)) apart

      module _ (put : told ≡ true → KeepsAt kept kept' p sized.commit)
          (knows : MayCome given stored_event h → Knows given (stored_event ∷ h) new)
          (after : h' ≡ stored_event ∷ h) where
        others_c : told ≡ true → (q : ℕ) → (q ≡ p → ⊥) → kept' q ≡ kept q
        others_c is q other = (put is).others q other

        stored_c : told ≡ true → (q : ℕ) → q < length given.logs
            → In (kept' q) (may_store given (stored_event ∷ h) q)
        stored_c is q below = elim (cases_Bool (p == q)) [
          | inl same ↦ let part : p ≡ q = eqb-true p q same in
              rw same (inl (ap kept' (sym part) ∙ (put is).changed))
          | inr apart ↦ rw (stored-other (p == q) sized.commit (may_store given h q) apart)
              (subst (λ (c : Commit). In c (may_store given h q))
              (sym (others_c is q (other-of q apart))) (keeps.stored is q below))
        ]

        known_c : Knows given (stored_event ∷ h) new
        known_c = knows (record {
          legal = (lawful, may.runs, keeps.knows.legal);
          limit = omega (arith, fits);
        })

        pub committed-given : given_to new h' told' outcomes kept' ≡ given
        committed-given = along stored_event (λ q. refl) others_c known_c after

        pub committed-keeps : IsEngine (given_to new h' told' outcomes kept') kept' new room' h'
        committed-keeps = subst (λ (x : Given). IsEngine x kept' new room' h')
            (sym committed-given) (rw after (record {
              knows = known_c;
              stored = λ is q below. stored_c is q below;
              room = omega (arith, less);
            }))

        pub committed-does : Does
            (Ok (record { position = sized.commit.position; size = sized.size }))
            (commit_step given h p (Ok tt)) h h'
        committed-does = rw (none, ← is_commit) (refl, after)

      module _ (put : told ≡ true → MayKeepAt kept kept' p sized.commit)
          (knows : MayCome given failed_event h → Knows given (failed_event ∷ h) new)
          (after : h' ≡ failed_event ∷ h) where
        others_f : told ≡ true → (q : ℕ) → (q ≡ p → ⊥) → kept' q ≡ kept q
        others_f is = keeps-others kept kept' p sized.commit (put is)

        at-part : told ≡ true
            → In (kept' p) (may_store given h p ++ sized.commit ∷ [])
        at-part is = elim (put is) [
          | inl all ↦ In-append_left (kept' p) (may_store given h p) _
              (subst (λ (c : Commit). In c (may_store given h p))
              (sym (all p)) (keeps.stored is p commit-below))
          | inr at ↦ In-append_right (kept' p) (may_store given h p) _ (inl at.changed)
        ]

        stored_f : told ≡ true → (q : ℕ) → q < length given.logs
            → In (kept' q) (may_store given (failed_event ∷ h) q)
        stored_f is q below = elim (cases_Bool (p == q)) [
          | inl same ↦ let part : p ≡ q = eqb-true p q same in
              rw same (subst (λ (u : ℕ). In (kept' u) (may_store given h u ++ sized.commit ∷ []))
              part (at-part is))
          | inr apart ↦ rw (failed-other (p == q) sized.commit (may_store given h q) apart)
              (subst (λ (c : Commit). In c (may_store given h q))
              (sym (others_f is q (other-of q apart))) (keeps.stored is q below))
        ]

        known_f : Knows given (failed_event ∷ h) new
        known_f = knows (record {
          legal = (lawful, may.runs, keeps.knows.legal);
          limit = omega (arith, fits);
        })

        pub failed-given : given_to new h' told' outcomes kept' ≡ given
        failed-given = along failed_event (λ q. refl) others_f known_f after

        pub failed-keeps : IsEngine (given_to new h' told' outcomes kept') kept' new room' h'
        failed-keeps = subst (λ (x : Given). IsEngine x kept' new room' h') (sym failed-given)
            (rw after (record {
              knows = known_f;
              stored = λ is q below. stored_f is q below;
              room = omega (arith, less);
            }))

        pub failed-does : (f : ClientFault) → (f ≡ client.NoMemory → ⊥)
            → Does {A = Receipt} (Err (Client f)) (commit_step given h p (Err f)) h h'
        failed-does f lasts = rw (none, ← is_commit)
            (subst (λ (x : Step Receipt). Does {A = Receipt} (Err (Client f)) x h h')
            (sym (commit_with-failed p sized f lasts)) (refl, after))
