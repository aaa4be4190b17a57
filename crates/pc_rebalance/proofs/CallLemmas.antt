-- What the calls of a step do, one after the other.
use Rattle.std.proofs.Common.{◌≡◌, ◌∙◌, ℕ, ◌+◌, ◌<◌, Bool, true, List, [], ◌∷◌, ◌++◌, take, drop, length, get_or, Option, Some, None, Result, Ok, Err, refl, ap, sym, subst, add-one, arith}
use Rattle.std.specs.Prelude.{OnErr, suc}
use Rattle.std.proofs.Math.Nat.{le_trans}
use Rattle.std.proofs.Math.Seq.{drop-cons, take-suc}
use Rattle.std.proofs.lemmas.List.{take-append-drop}
use Rattle.pc_model.specs.declared.commit.Commit.{Commit}
use Rattle.pc_model.specs.declared.commit.SizedCommit.{SizedCommit}
use Rattle.pc_model.specs.declared.event.Event.{Event}
use Rattle.pc_model.specs.Broker.{Broker}
use Rattle.pc_model.specs.Given.{Given}
use Rattle.pc_model.specs.Known.{commit_of}
use Rattle.pc_task.specs.Jobs.{Outcomes}
use Rattle.pc_offset_client.specs.declared.fault.ClientFault.{ClientFault}
use Rattle.pc_offset_client.specs.declared.fault.ClientFault.TheVariants as client
use Rattle.pc_engine.specs.declared.fault.EngineFault.{EngineFault}
use Rattle.pc_engine.specs.declared.fault.EngineFault.TheVariants.{Client, NoMemory}
use Rattle.pc_engine.specs.Engine.{EngineView, Asks, Keeps, given_of}
use Rattle.pc_engine.specs.Effect.{Step, Does, IsFetched, IsStored, KeepsStore, assign_refusal, assign_step, revoke_after, revoke_refusal, revoke_step, revoke_with}
use Rattle.pc_engine.specs.Stand.{DoesAlone, Stand, stand_of}
use Rattle.pc_rebalance.specs.Apply.{Assigns, AssignsAll, Revokes, outcome_alone}

-- ---- a revocation

-- whether a call was refused, of its step too
alone : {A : Type 0} (r : Result A EngineFault) (step : Step A) (h h' : List Event) → Does r step h h'
    → Does (outcome_alone r) (record { answer = outcome_alone step.answer; events = step.events }) h h'
alone (Ok it) step h h' does = (ap outcome_alone does.0, does.1)
alone (Err NoMemory) step h h' does = does
alone (Err fault) step h h' does = (ap outcome_alone does.0, does.1)

-- a revocation never answers that the client failed
no-client : (h : List Event) (p : ℕ) (c : SizedCommit) (asked : Result (Unit {0}) ClientFault)
    (failed : ClientFault) → Err (Client failed) ≡ (revoke_with h p c asked).answer → ⊥
no-client h p c (Ok done) failed is = cc
no-client h p c (Err client.NoMemory) failed is = cc
no-client h p c (Err fault) failed is = cc

-- so what is stored stays where it was refused
stays-refused : (given : Given) (h h' : List Event) (p : ℕ) (asked : Result (Unit {0}) ClientFault)
    (store store' : Broker) (x : Option EngineFault) (r : Result (Option ClientFault) EngineFault)
    → ((fault : EngineFault) → x ≡ Some fault → store' ≡ store)
    → Does r (revoke_after given h p asked x) h h' → KeepsStore r store store'
    → OnErr (outcome_alone r) (store' ≡ store)
stays-refused given h h' p asked store store' x (Ok it) same does keeps = tt
stays-refused given h h' p asked store store' (Some fault) (Err (Client failed)) same does keeps =
    same fault refl
stays-refused given h h' p asked store store' None (Err (Client failed)) same does keeps =
    absurd (no-client h p (commit_of given h p) asked failed does.0)
stays-refused given h h' p asked store store' x (Err fault) same does keeps = keeps

-- ---- the engine's calls

module _ {L T : Type 0} (is_told : L → Bool) (store : L → Broker) (faults : L → ℕ)
    (outcome : T → Outcomes) (old new : EngineView L T) where
  same-stand : new.journal.events ≡ old.journal.events → new.link ≡ old.link
      → stand_of store faults new ≡ stand_of store faults old
  same-stand events link =
      ap (λ (h : List Event). record {
        history = h;
        store = store new.link;
        faults = faults new.link;
      }) events
      ∙ ap (λ (l : L). record {
        history = old.journal.events;
        store = store l;
        faults = faults l;
      }) link

  pub assigns-of : (p : ℕ) (r : Result (Unit {0}) EngineFault)
      → (asked : Result Commit ClientFault) × IsFetched (is_told old.link) (store old.link)
      (faults old.link) (faults new.link) p asked × Does r
      (assign_step (given_of outcome old) old.journal.events p asked) old.journal.events
      new.journal.events
      → ((fault : EngineFault) → assign_refusal (given_of outcome old) old.journal.events p ≡ Some fault
      → (r ≡ Err fault) × (new.journal.events ≡ old.journal.events) × (new.link ≡ old.link))
      → (is_told old.link ≡ true → store new.link ≡ store old.link)
      → Asks outcome is_told faults old new
      → Assigns (is_told old.link) (given_of outcome old) p (stand_of store faults old)
      (stand_of store faults new) r
  assigns-of p r (asked, fetched, does) refused keeps asks = record {
    asked = asked;
    fetched = fetched;
    does = does;
    keeps = keeps;
    later = asks.count;
    unasked = λ fault is. same-stand (refused fault is).1 (refused fault is).2;
  }

  pub revokes-of : (p : ℕ) (r : Result (Option ClientFault) EngineFault)
      → (asked : Result (Unit {0}) ClientFault) × IsStored (is_told old.link) (store old.link)
      (store new.link) (faults old.link) (faults new.link) p
      (commit_of (given_of outcome old) old.journal.events p).commit asked × Does r
      (revoke_step (given_of outcome old) old.journal.events p asked) old.journal.events
      new.journal.events
      → ((fault : EngineFault) → revoke_refusal (given_of outcome old) old.journal.events p ≡ Some fault
      → (r ≡ Err fault) × (new.journal.events ≡ old.journal.events) × (new.link ≡ old.link))
      → (is_told old.link ≡ true → KeepsStore r (store old.link) (store new.link))
      → Asks outcome is_told faults old new
      → Revokes (is_told old.link) (given_of outcome old) p (stand_of store faults old)
      (stand_of store faults new) (outcome_alone r)
  revokes-of p r (asked, stored, does) refused keeps asks = record {
    asked = asked;
    stored = stored;
    does = alone r (revoke_step (given_of outcome old) old.journal.events p asked)
        old.journal.events new.journal.events does;
    stays = λ told. stays-refused (given_of outcome old) old.journal.events new.journal.events p
        asked (store old.link) (store new.link)
        (revoke_refusal (given_of outcome old) old.journal.events p) r
        (λ fault is. ap store (refused fault is).2) does (keeps told);
    later = asks.count;
    unasked = λ fault is. same-stand (refused fault is).1 (refused fault is).2;
  }

  -- a call that asks nothing
  pub alone-of : (step : Step (Unit {0})) (r : Result (Unit {0}) EngineFault)
      → Does r step old.journal.events new.journal.events → Keeps outcome old new
      → DoesAlone step (stand_of store faults old) (stand_of store faults new) r
  alone-of step r does keeps = record {
    does = does;
    store = ap store keeps.link;
    faults = ap faults keeps.link;
  }

  pub asks-kept : Keeps outcome old new → Asks outcome is_told faults old new
  asks-kept keeps = record {
    given = keeps.given;
    task = keeps.task;
    told = ap is_told keeps.link;
    count = let same : faults new.link ≡ faults old.link = ap faults keeps.link in omega arith;
  }

-- ---- one call after the other

pub asks-trans : {L T : Type 0} (outcome : T → Outcomes) (is_told : L → Bool) (faults : L → ℕ)
    (a b c : EngineView L T) → Asks outcome is_told faults a b → Asks outcome is_told faults b c
    → Asks outcome is_told faults a c
asks-trans outcome is_told faults a b c first next = record {
  given = next.given ∙ first.given;
  task = next.task ∙ first.task;
  told = next.told ∙ first.told;
  count = le_trans first.count next.count;
}

module _ (told : Bool) (given : Given) where
  -- parts after others
  all-append : (xs ys : List ℕ) (a b c : Stand) (r : Result (Unit {0}) EngineFault)
      → AssignsAll told given xs a b (Ok tt) → AssignsAll told given ys b c r
      → AssignsAll told given (xs ++ ys) a c r
  unfolding AssignsAll
  all-append [] ys a b c r first next =
      subst (λ (s : Stand). AssignsAll told given ys s c r) first.0 next
  all-append (x ∷ xs) ys a b c r (Ok done, between, assigns, rest) next =
      (Ok done, between, assigns, all-append xs ys between b c r rest next)
  all-append (x ∷ xs) ys a b c r (Err fault, between, assigns, rest) next =
      let is : Ok tt ≡ Err fault = rest.1 in cc

  -- one part
  all-one : (p : ℕ) (a b : Stand) → Assigns told given p a b (Ok tt)
      → AssignsAll told given (p ∷ []) a b (Ok tt)
  unfolding AssignsAll
  all-one p a b assigns = (Ok tt, b, assigns, (refl, refl))

  -- a part that was refused, whatever comes after it
  all-refused : (p : ℕ) (ps : List ℕ) (a b : Stand) (fault : EngineFault)
      → Assigns told given p a b (Err fault) → AssignsAll told given (p ∷ ps) a b (Err fault)
  unfolding AssignsAll
  all-refused p ps a b fault assigns = (Err fault, b, assigns, (refl, refl))

  pub all-none : (a : Stand) → AssignsAll told given [] a a (Ok tt)
  unfolding AssignsAll
  all-none a = (refl, refl)

  -- of a list, the next part
  pub all-next : (parts : List ℕ) (i p d : ℕ) (a b c : Stand) → i < length parts
      → p ≡ get_or parts i d → AssignsAll told given (take i parts) a b (Ok tt)
      → Assigns told given p b c (Ok tt)
      → AssignsAll told given (take (i + 1) parts) a c (Ok tt)
  all-next parts i p d a b c below is first next =
      subst (λ (l : List ℕ). AssignsAll told given l a c (Ok tt))
      (ap (λ (x : ℕ). take i parts ++ x ∷ []) is ∙ sym (take-suc parts i d below)
      ∙ ap (λ (n : ℕ). take n parts) (sym (add-one i)))
      (all-append (take i parts) (p ∷ []) a b c (Ok tt) first (all-one p b c next))

  -- the next part was refused
  pub all-stopped : (parts : List ℕ) (i p d : ℕ) (a b c : Stand) (fault : EngineFault)
      → i < length parts → p ≡ get_or parts i d
      → AssignsAll told given (take i parts) a b (Ok tt) → Assigns told given p b c (Err fault)
      → AssignsAll told given parts a c (Err fault)
  all-stopped parts i p d a b c fault below is first next =
      subst (λ (l : List ℕ). AssignsAll told given l a c (Err fault))
      (ap (λ (x : ℕ). take i parts ++ x ∷ drop (suc i) parts) is
      ∙ ap (λ (l : List ℕ). take i parts ++ l) (sym (drop-cons parts i d below))
      ∙ take-append-drop i parts)
      (all-append (take i parts) (p ∷ drop (suc i) parts) a b c (Err fault) first
      (all-refused p (drop (suc i) parts) b c fault next))

-- what is said of the given and the link before stays so where they do
pub assigns-over : (told told' : Bool) (given given' : Given) (p : ℕ) (a b : Stand)
    (r : Result (Unit {0}) EngineFault) → told' ≡ told → given' ≡ given
    → Assigns told' given' p a b r → Assigns told given p a b r
assigns-over told told' given given' p a b r same same' assigns =
    subst (λ (t : Bool). Assigns t given p a b r) same
    (subst (λ (x : Given). Assigns told' x p a b r) same' assigns)

pub all-over : (told told' : Bool) (given given' : Given) (ps ps' : List ℕ) (a b : Stand)
    (r : Result (Unit {0}) EngineFault) → told' ≡ told → given' ≡ given → ps' ≡ ps
    → AssignsAll told' given' ps' a b r → AssignsAll told given ps a b r
all-over told told' given given' ps ps' a b r same same' same'' all =
    subst (λ (t : Bool). AssignsAll t given ps a b r) same
    (subst (λ (x : Given). AssignsAll told' x ps a b r) same'
    (subst (λ (l : List ℕ). AssignsAll told' given' l a b r) same'' all))
