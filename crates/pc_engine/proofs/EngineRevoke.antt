-- What an engine's type keeps after a revocation: a commit that was stored or failed, and then the
-- end of the part's epoch.
use Rattle.std.proofs.Common.{◌≡◌, ◌⊎◌, ℕ, ◌+◌, ◌≤◌, Bool, true, false, List, ◌∷◌, ◌++◌, length, Option, Some, None, Result, Ok, Err, refl, ap, sym, subst, ◌∙◌, arith, inl, inr}
use Rattle.pc_model.specs.declared.commit.Commit.{Commit}
use Rattle.pc_model.specs.declared.commit.SizedCommit.{SizedCommit}
use Rattle.pc_model.specs.declared.event.Event.{Event}
use Rattle.pc_model.specs.declared.event.Event.TheVariants.{Revoke}
use Rattle.pc_model.specs.Broker.{Broker}
use Rattle.std.proofs.lemmas.Bool.{cases_Bool, lt-ltb, ltb-true}
use Rattle.pc_model.specs.Given.{Given, has_log}
use Rattle.pc_model.specs.Jobs.{has_ended, open_jobs}
use Rattle.pc_model.specs.Epochs.{epoch_of, is_held}
use Rattle.pc_model.specs.Known.{commit_of}
use Rattle.pc_model.specs.Lawful.{ends_in_commit}
use Rattle.pc_model.proofs.ListLemmas.{same_number}
use Rattle.pc_offset_client.specs.declared.fault.ClientFault.{ClientFault}
use Rattle.pc_offset_client.specs.declared.fault.ClientFault.TheVariants as client
use Rattle.pc_task.specs.Jobs.{Outcomes}
use Rattle.pc_engine.specs.declared.engine.Committed.{Committed as Receipt}
use Rattle.pc_engine.specs.declared.fault.EngineFault.{EngineFault}
use Rattle.pc_engine.specs.declared.fault.EngineFault.TheVariants.{Client, NoMemory}
use Rattle.pc_state.specs.declared.state.State.{State}
use Rattle.pc_engine.specs.Effect.{Does, IsStored, Step, commit_after, commit_refusal, commit_step, commit_with, failed_of, failure_of, held_refusal, is_full, refused_by, refuses, revoke_after, revoke_step, revoke_with}
use Rattle.pc_engine.specs.Engine.{IsEngine}
use Rattle.pc_state.specs.State.{Knows, MayCome}
use Rattle.pc_engine.proofs.EngineLemmas.{may_commit}
use Rattle.pc_engine.proofs.EngineEvents.{room-limit}
use Rattle.pc_engine.proofs.EngineStep.{given_to, given-event, keeps-event}

-- ---- what the store of a commit did

-- what the call that has a commit stored says
abbrev pub Stores : Bool → Broker → Broker → ℕ → ℕ → ℕ → Given → List Event
    → Result Receipt EngineFault → List Event → Type 0
Stores told b b' n n' p given h r h' = (outcome : Result (Unit {0}) ClientFault)
    × IsStored told b b' n n' p (commit_of given h p).commit outcome
    × Does r (commit_step given h p outcome) h h'

-- the same of a revocation
abbrev Revokes : Bool → Broker → Broker → ℕ → ℕ → ℕ → Given → List Event
    → Result (Option ClientFault) EngineFault → List Event → Type 0
Revokes told b b' n n' p given h r h' = (outcome : Result (Unit {0}) ClientFault)
    × IsStored told b b' n n' p (commit_of given h p).commit outcome
    × Does r (revoke_step given h p outcome) h h'

-- a revocation that is not refused commits
pub commits : (given : Given) (h : List Event) (p : ℕ) → held_refusal given h p 2 ≡ None
    → commit_refusal given h p ≡ None
commits given h p none = elim (cases_Bool (has_ended h)) [
  | inl ended ↦ let out = rw ended at none in cc out
  | inr runs ↦ elim (cases_Bool (has_log given p)) [
    | inr unknown ↦ let out = rw (runs, unknown) at none in cc out
    | inl known ↦ elim (cases_Bool (is_held h p)) [
      | inr free ↦ let out = rw (runs, known, free) at none in cc out
      | inl held ↦ elim (cases_Bool (is_full h 1)) [
        | inl full ↦ let over = ltb-true 4000000 (length h + length (open_jobs h) + 1) full in
            let more : is_full h 2 ≡ true = lt-ltb 4000000 _ (omega (arith, over)) in
            let out = rw (runs, known, held, more) at none in cc out
        | inr room ↦ rw (runs, known, held, room) refl
      ]
    ]
  ]
]

-- a commit that was not made was for want of memory
unmade : (o : Option EngineFault) (given : Given) (h h' : List Event) (p : ℕ)
    (outcome : Result (Unit {0}) ClientFault) (stored : Result Receipt EngineFault)
    (f : EngineFault) → o ≡ None
    → ◌≡◌ {A = Result (Option ClientFault) EngineFault} (Err f) (failure_of stored)
    → Does stored (commit_after given h p outcome o) h h' → (f ≡ NoMemory) × (h' ≡ h)
unmade (Some g) given h h' p outcome stored f none is does = cc
unmade None given h h' p outcome (Ok receipt) f none is does = cc
unmade None given h h' p outcome (Err NoMemory) f none is does = (cc, does)
unmade None given h h' p (Ok done) (Err fault) f none is does = cc
unmade None given h h' p (Err failed) (Err (Client x)) f none is does = cc
unmade None given h h' p (Err client.NoMemory) (Err fault) f none is does = cc
unmade None given h h' p (Err failed) (Err fault) f none is does = cc

-- of one that was made the event stands, and the client did not run out of memory
made : (o : Option EngineFault) (given : Given) (h h' : List Event) (p : ℕ)
    (outcome : Result (Unit {0}) ClientFault) (stored : Result Receipt EngineFault)
    (failed : Option ClientFault) → o ≡ None
    → ◌≡◌ {A = Result (Option ClientFault) EngineFault} (Ok failed) (failure_of stored)
    → Does stored (commit_after given h p outcome o) h h'
    → (failed ≡ failed_of outcome)
    × (h' ≡ (commit_with p (commit_of given h p) outcome).events ++ h)
    × (outcome ≡ Err client.NoMemory → ⊥)
made (Some g) given h h' p outcome stored failed none is does = cc
made None given h h' p (Ok done) (Ok receipt) failed none is does = (cc, does.1, λ forgot. cc)
made None given h h' p (Err client.NoMemory) (Ok receipt) failed none is does = cc
made None given h h' p (Err x) (Ok receipt) failed none is does = cc
made None given h h' p outcome (Err NoMemory) failed none is does = cc
made None given h h' p (Ok done) (Err (Client y)) failed none is does = cc
made None given h h' p (Err client.NoMemory) (Err (Client y)) failed none is does = cc
made None given h h' p (Err x) (Err (Client y)) failed none is does = (cc, does.1, λ forgot. cc)
made None given h h' p outcome (Err fault) failed none is does = cc

-- the step of a revocation whose commit was made
revoke_with-made : (h : List Event) (p : ℕ) (c : SizedCommit)
    (outcome : Result (Unit {0}) ClientFault) → (outcome ≡ Err client.NoMemory → ⊥)
    → revoke_with h p c outcome ≡ record {
      answer = Ok (failed_of outcome);
      events = Revoke p (epoch_of h p) ∷ (commit_with p c outcome).events;
    }
revoke_with-made h p c (Ok done) lasts = refl
revoke_with-made h p c (Err client.NoMemory) lasts = absurd (lasts refl)
revoke_with-made h p c (Err failed) lasts = refl

-- and where it was made there is a place less
pub made-room : (stored : Result Receipt EngineFault) (failed : Option ClientFault) (a b : ℕ)
    → ◌≡◌ {A = Result (Option ClientFault) EngineFault} (Ok failed) (failure_of stored)
    → (stored ≡ Err NoMemory) ⊎ (a + 1 ≡ b) → a + 1 ≡ b
made-room stored failed a b is (inl none) = let out = rw none at is in cc out
made-room stored failed a b is (inr less) = less

-- what a commit's event leaves
record Adds (p : ℕ) (h h' : List Event) : Type 0 where
  last : ends_in_commit h' p ≡ true
  held : is_held h' p ≡ is_held h p
  epoch : epoch_of h' p ≡ epoch_of h p
  count : length h' ≡ length h + 1
  jobs : open_jobs h' ≡ open_jobs h
  ended : has_ended h' ≡ has_ended h

adds : (p : ℕ) (c : SizedCommit) (outcome : Result (Unit {0}) ClientFault) (h : List Event)
    → (outcome ≡ Err client.NoMemory → ⊥) → Adds p h ((commit_with p c outcome).events ++ h)
adds p c (Ok done) h lasts = record {
  last = same_number p;
  held = refl;
  epoch = refl;
  count = omega arith;
  jobs = refl;
  ended = refl;
}
adds p c (Err client.NoMemory) h lasts = absurd (lasts refl)
adds p c (Err failed) h lasts = record {
  last = same_number p;
  held = refl;
  epoch = refl;
  count = omega arith;
  jobs = refl;
  ended = refl;
}

-- ---- a revocation that is refused

does-refuses : (f : EngineFault) (h h' : List Event) → h' ≡ h
    → Does {A = Option ClientFault} (Err f) (refuses f) h h'
does-refuses NoMemory h h' same = same
does-refuses f h h' same = (refl, same)

does-refused : (o : Option EngineFault) (f : EngineFault) (given : Given) (h h' : List Event)
    (p : ℕ) (outcome : Result (Unit {0}) ClientFault)
    → ◌≡◌ {A = Result (Unit {0}) EngineFault} (Err f) (refused_by o) → h' ≡ h
    → Does {A = Option ClientFault} (Err f) (revoke_after given h p outcome o) h h'
does-refused None f given h h' p outcome is same = cc
does-refused (Some g) f given h h' p outcome is same =
    let fault : f ≡ g = cc in
    subst (λ (x : EngineFault). Does {A = Option ClientFault} (Err f) (refuses x) h h') fault
    (does-refuses f h h' same)

module _ (r : Result (Option ClientFault) EngineFault) (f : EngineFault) (given : Given)
    (h h' : List Event) (p : ℕ) (told : Bool) (b b' : Broker) (n n' : ℕ) (was : r ≡ Err f) where
  -- before the link is asked
  pub revoke-refused : ◌≡◌ {A = Result (Unit {0}) EngineFault} (Err f)
      (refused_by (held_refusal given h p 2)) → b' ≡ b → h' ≡ h
      → Revokes told b b' n n' p given h r h'
  revoke-refused is stays same = (
    Err client.NoMemory,
    record { cause = λ is. cc; gives = λ told. stays },
    subst (λ (x : Result (Option ClientFault) EngineFault).
        Does x (revoke_step given h p (Err client.NoMemory)) h h') (sym was)
        (does-refused (held_refusal given h p 2) f given h h' p (Err client.NoMemory) is same),
  )

  -- for want of memory
  pub revoke-unmade : f ≡ NoMemory → b' ≡ b → h' ≡ h → Revokes told b b' n n' p given h r h'
  revoke-unmade none stays same = (
    Err client.NoMemory,
    record { cause = λ is. cc; gives = λ told. stays },
    subst (λ (x : Result (Option ClientFault) EngineFault).
        Does x (revoke_step given h p (Err client.NoMemory)) h h')
        (sym (was ∙ ap (λ (e : EngineFault). Err e) none)) same,
  )

  -- for want of memory for the commit
  pub revoke-unstored : (stored : Result Receipt EngineFault) → commit_refusal given h p ≡ None
      → ◌≡◌ {A = Result (Option ClientFault) EngineFault} (Err f) (failure_of stored)
      → Stores told b b' n n' p given h stored h' → Revokes told b b' n n' p given h r h'
  revoke-unstored stored none is (outcome, gives, does) =
      let not = unmade (commit_refusal given h p) given h h' p outcome stored f none is does in (
        outcome,
        gives,
        subst (λ (x : Result (Option ClientFault) EngineFault).
            Does x (revoke_step given h p outcome) h h')
            (sym (was ∙ ap (λ (e : EngineFault). Err e) not.0)) not.1,
      )

-- ---- a revocation that is made

module _ (given : Given) (h h2 : List Event) (p : ℕ) (told : Bool) (b b' : Broker) (n n' : ℕ)
    (stored : Result Receipt EngineFault) (failed : Option ClientFault)
    (refused : commit_refusal given h p ≡ None)
    (is : ◌≡◌ {A = Result (Option ClientFault) EngineFault} (Ok failed) (failure_of stored))
    (stores : Stores told b b' n n' p given h stored h2) where
  stands : (failed ≡ failed_of stores.0)
      × (h2 ≡ (commit_with p (commit_of given h p) stores.0).events ++ h)
      × (stores.0 ≡ Err client.NoMemory → ⊥)
  stands = made (commit_refusal given h p) given h h2 p stores.0 stored failed refused is stores.2

  added : Adds p h h2
  added = subst (λ (k : List Event). Adds p h k) (sym stands.1)
      (adds p (commit_of given h p) stores.0 h stands.2)

  pub still-held : is_held h p ≡ true → is_held h2 p ≡ true
  still-held held = added.held ∙ held

  -- its effect
  pub revoke-does : (h3 : List Event) (epoch : ℕ) → held_refusal given h p 2 ≡ None
      → epoch ≡ epoch_of h2 p → h3 ≡ Revoke p epoch ∷ h2
      → Revokes told b b' n n' p given h (Ok failed) h3
  revoke-does h3 epoch none epoch_is after =
      (stores.0, stores.1, revoked (held_refusal given h p 2) none)
    where
      revoked : (o : Option EngineFault) → o ≡ None
          → Does (Ok failed) (revoke_after given h p stores.0 o) h h3
      revoked (Some g) not = cc
      revoked None not =
          subst (λ (x : Step (Option ClientFault)). Does (Ok failed) x h h3)
          (sym (revoke_with-made h p (commit_of given h p) stores.0 stands.2)) (
            ap (λ (x : Option ClientFault). Ok x) stands.0,
            after ∙ ap (λ (e : ℕ). Revoke p e ∷ h2) (epoch_is ∙ added.epoch)
                ∙ ap (λ (k : List Event). Revoke p (epoch_of h p) ∷ k) stands.1,
          )

  -- and what the type keeps, where the state is known behind the commit
  module _ (state new : State) (told2 : Bool) (outcomes : Outcomes) (kept : ℕ → Commit) (room : ℕ)
      (keeps : IsEngine (given_to state h2 told2 outcomes kept) kept state room h2)
      (room_left : is_full h 2 ≡ false)
      (knows : MayCome (given_to state h2 told2 outcomes kept) (Revoke p (epoch_of h2 p)) h2
      → Knows (given_to state h2 told2 outcomes kept) (Revoke p (epoch_of h2 p) ∷ h2) new)
      (h3 : List Event) (epoch : ℕ) (epoch_is : epoch ≡ epoch_of h2 p)
      (after : h3 ≡ Revoke p epoch ∷ h2) where
    may-revoke : MayCome (given_to state h2 told2 outcomes kept) (Revoke p (epoch_of h2 p)) h2
    may-revoke = record {
      legal = (
        record { after_commit = added.last; epoch_is = refl },
        added.ended ∙ (may_commit given h p refused).runs,
        keeps.knows.legal,
      );
      limit = let limit = room-limit h 2 room_left in
          let jobs : length (open_jobs h2) ≡ length (open_jobs h) = ap length added.jobs in
          omega (arith, limit, jobs, added.count);
    }

    revoked-events : h3 ≡ Revoke p (epoch_of h2 p) ∷ h2
    revoked-events = after ∙ ap (λ (e : ℕ). Revoke p e ∷ h2) epoch_is

    pub revoked-given : given_to new h3 told2 outcomes kept ≡ given_to state h2 told2 outcomes kept
    revoked-given = given-event state new h2 h3 told2 outcomes kept (Revoke p (epoch_of h2 p)) (λ q. refl)
        (knows may-revoke) revoked-events

    pub revoked-keeps : (room1 room3 m : ℕ) → m ≡ length (open_jobs h) → m + 2 ≤ room1
        → room + 1 ≡ room1 → room3 + 1 ≡ room
        → IsEngine (given_to new h3 told2 outcomes kept) kept new room3 h3
    revoked-keeps room1 room3 m count enough less less2 =
        let jobs : length (open_jobs h2) ≡ length (open_jobs h) = ap length added.jobs in
        keeps-event state new h2 h3 told2 outcomes kept room room3 (Revoke p (epoch_of h2 p)) keeps
        (λ q. refl) (knows may-revoke) (λ q. refl) (omega (arith, count, enough, less, less2, jobs)) revoked-events
