-- A step's block keeps to the steps and to the pace of a run.
use Rattle.std.proofs.Common.{◌≡◌, ◌∙◌, ℕ, ◌+◌, Bool, true, false, ◌&&◌, ◌||◌, ◌==◌, List, [], ◌∷◌, ◌++◌, Option, Some, None, Result, Ok, Err, refl, ap, sym, subst}
use Rattle.std.specs.Option.{option_map_or}
use Rattle.std.specs.Prelude.{OnOk}
use Rattle.std.proofs.lemmas.Bool.{and_from, and_parts, or_left, eq-eqb}
use Rattle.pc_model.specs.declared.commit.Commit.{Commit}
use Rattle.pc_model.specs.declared.commit.SizedCommit.{SizedCommit}
use Rattle.pc_model.specs.declared.event.Event.{Event}
use Rattle.pc_model.specs.declared.event.Event.TheVariants.{Assign, Commit as Committed, CommitFailed, Revoke, Lost, Crash}
use Rattle.pc_model.specs.declared.map_fault.MapFault.{MapFault}
use Rattle.pc_model.specs.declared.step.Act.{Act}
use Rattle.pc_model.specs.declared.step.Act.TheVariants as act
use Rattle.pc_model.specs.declared.step.Step.{Step as RunStep}
use Rattle.pc_model.specs.Given.{Given}
use Rattle.pc_model.specs.Epochs.{epoch_of}
use Rattle.pc_model.specs.Known.{commit_of}
use Rattle.pc_model.specs.Lawful.{held_parts, is_nil}
use Rattle.pc_model.specs.Pace.{goes_with, is_commit_paced, is_paced, is_paced_at, may_commit}
use Rattle.pc_model.specs.Run.{is_commit_due}
use Rattle.pc_model.specs.Steps.{is_step_due, next_step, same_act, Place, after_assign, follows, follows_at, is_next_part, may_begin, place_of}
use Rattle.pc_offset_client.specs.declared.fault.ClientFault.{ClientFault}
use Rattle.pc_offset_client.specs.declared.fault.ClientFault.TheVariants as client
use Rattle.pc_engine.specs.declared.fault.EngineFault.{EngineFault}
use Rattle.pc_engine.specs.declared.fault.EngineFault.TheVariants.{BadMap, NoMemory}
use Rattle.pc_engine.specs.Effect.{Does, assign_after, assign_refusal, assign_with, crash_after, crash_refusal, lose_after, lose_refusal, refuses, revoke_after, revoke_refusal, revoke_with}
use Rattle.pc_engine.specs.Fault.{engine_fault_of}
use Rattle.pc_engine.specs.Stand.{Stand}
use Rattle.pc_rebalance.specs.Apply.{Applies, AssignsAll, Then, outcome_alone}
use Rattle.pc_rebalance.specs.Block.{next_place}
use Rattle.pc_run_laws.specs.Run.{AnyMayCome}

or_right : (a b : Bool) → b ≡ true → (a || b) ≡ true
or_right true b e = refl
or_right false b e = e

-- ---- whether a block may begin

same-act : (a : Act) → same_act a a ≡ true
same-act (act.Assign p) = eq-eqb p p refl
same-act (act.Revoke p) = eq-eqb p p refl
same-act (act.Lose p) = eq-eqb p p refl
same-act act.Crash = refl

-- the next step may begin once it is due
pub due-begins : (given : Given) (steps : List RunStep) (step : RunStep) (h : List Event)
    → (place_of given h).left ≡ [] → next_step given steps h ≡ Some step
    → is_step_due given step h ≡ true → may_begin given steps h step.act ≡ true
due-begins given steps step h none next due =
    let test : RunStep → Bool = λ s. same_act s.act step.act && is_step_due given s h in
    and_from (is_nil (place_of given h).left)
    (option_map_or test (next_step given steps h) false)
    (ap (λ (left : List ℕ). is_nil left) none)
    (ap (λ (o : Option RunStep). option_map_or test o false) next
    ∙ and_from (same_act step.act step.act) (is_step_due given step h) (same-act step.act) due)

-- ---- what a call added

-- nothing, and it was refused, or these events
pub data Comes (es h h' : List Event) (r : Result (Unit {0}) EngineFault) : Type 0 where
  Refused : (fault : EngineFault) → r ≡ Err fault → h' ≡ h → Comes es h h' r
  Whole : r ≡ Ok tt → h' ≡ es ++ h → Comes es h h' r

-- an event that is a commit of the part, stored or failed
pub data IsCommitOf (p : ℕ) (c : Event) : Type 0 where
  Stored : (position : ℕ) (text : List ℕ) (size : ℕ) → c ≡ Committed p position text size
      → IsCommitOf p c
  Failed : (position : ℕ) (text : List ℕ) (size : ℕ) → c ≡ CommitFailed p position text size
      → IsCommitOf p c

module _ (h h' : List Event) where
  comes-refused : (es : List Event) (r : Result (Unit {0}) EngineFault) (fault : EngineFault)
      → Does r (refuses fault) h h' → Comes es h h' r
  comes-refused es (Ok done) fault does = let is : Ok done ≡ Err fault = does.0 in cc
  comes-refused es (Err NoMemory) fault does = Refused NoMemory refl does
  comes-refused es (Err other) fault does = Refused fault does.0 does.1

  pub comes-whole : (es : List Event) (r : Result (Unit {0}) EngineFault)
      → Does r (record { answer = Ok tt; events = es }) h h' → Comes es h h' r
  comes-whole es (Ok done) does = Whole does.0 does.1
  comes-whole es (Err NoMemory) does = Refused NoMemory refl does
  comes-whole es (Err other) does = let is : Err other ≡ Ok tt = does.0 in cc

  -- a loss
  pub comes-lost : (p : ℕ) (x : Option EngineFault) (r : Result (Unit {0}) EngineFault)
      → Does r (lose_after h p x) h h' → Comes (Lost p (epoch_of h p) ∷ []) h h' r
  comes-lost p None r does = comes-whole (Lost p (epoch_of h p) ∷ []) r does
  comes-lost p (Some fault) r does = comes-refused (Lost p (epoch_of h p) ∷ []) r fault does

  -- a crash
  pub comes-crash : (x : Option EngineFault) (r : Result (Unit {0}) EngineFault)
      → Does r (crash_after x) h h' → Comes (Crash ∷ []) h h' r
  comes-crash None r does = comes-whole (Crash ∷ []) r does
  comes-crash (Some fault) r does = comes-refused (Crash ∷ []) r fault does

  -- an assignment
  abbrev pub IsAssigned : ℕ → Result (Unit {0}) EngineFault → Type 0
  IsAssigned p r = (epoch : ℕ) × (position : ℕ) × (text : List ℕ)
      × Comes (Assign p epoch position text ∷ []) h h' r

  assigned-refused : (p : ℕ) (r : Result (Unit {0}) EngineFault) (fault : EngineFault)
      → Does r (refuses fault) h h' → IsAssigned p r
  assigned-refused p r fault does = (0, 0, [], comes-refused (Assign p 0 0 [] ∷ []) r fault does)

  assigned-with : (p : ℕ) (stored : Commit) (x : Option MapFault)
      (r : Result (Unit {0}) EngineFault) → Does r (assign_with h p stored x) h h' → IsAssigned p r
  assigned-with p stored None r does = (
    epoch_of h p + 1,
    stored.position,
    stored.map,
    comes-whole (Assign p (epoch_of h p + 1) stored.position stored.map ∷ []) r does,
  )
  assigned-with p stored (Some fault) r does = assigned-refused p r (BadMap fault) does

  pub assigned-after : (given : Given) (p : ℕ) (asked : Result Commit ClientFault)
      (x : Option EngineFault) (r : Result (Unit {0}) EngineFault)
      → Does r (assign_after given h p asked x) h h' → IsAssigned p r
  assigned-after given p asked (Some fault) r does = assigned-refused p r fault does
  assigned-after given p (Err failed) None r does =
      assigned-refused p r (engine_fault_of failed) does
  assigned-after given p (Ok stored) None r does =
      assigned-with p stored _ r does

  -- a revocation: with a commit of the part, stored or failed
  abbrev pub IsGivenBack : ℕ → Result (Unit {0}) EngineFault → Type 0
  IsGivenBack p r = (epoch : ℕ) × (c : Event) × IsCommitOf p c
      × Comes (Revoke p epoch ∷ c ∷ []) h h' r

  given_back-refused : (p : ℕ) (r : Result (Unit {0}) EngineFault) (fault : EngineFault)
      → Does r (refuses fault) h h' → IsGivenBack p r
  given_back-refused p r fault does = (
    0,
    Committed p 0 [] 0,
    Stored 0 [] 0 refl,
    comes-refused (Revoke p 0 ∷ Committed p 0 [] 0 ∷ []) r fault does,
  )

  given_back-with : (p : ℕ) (c : SizedCommit) (asked : Result (Unit {0}) ClientFault)
      (r : Result (Unit {0}) EngineFault) → Does r (record {
        answer = outcome_alone (revoke_with h p c asked).answer;
        events = (revoke_with h p c asked).events;
      }) h h' → IsGivenBack p r
  given_back-with p c (Ok done) r does = (
    epoch_of h p,
    Committed p c.commit.position c.commit.map c.size,
    Stored c.commit.position c.commit.map c.size refl,
    comes-whole (Revoke p (epoch_of h p) ∷ Committed p c.commit.position c.commit.map c.size ∷ [])
        r does,
  )
  given_back-with p c (Err client.NoMemory) r does = given_back-refused p r NoMemory does
  given_back-with p c (Err failed) r does = (
    epoch_of h p,
    CommitFailed p c.commit.position c.commit.map c.size,
    Failed c.commit.position c.commit.map c.size refl,
    comes-whole (Revoke p (epoch_of h p) ∷ CommitFailed p c.commit.position c.commit.map c.size
        ∷ []) r does,
  )

  pub given_back-after : (given : Given) (p : ℕ) (asked : Result (Unit {0}) ClientFault)
      (x : Option EngineFault) (r : Result (Unit {0}) EngineFault) → Does r (record {
        answer = outcome_alone (revoke_after given h p asked x).answer;
        events = (revoke_after given h p asked x).events;
      }) h h' → IsGivenBack p r
  given_back-after given p asked (Some fault) r does = given_back-refused p r fault does
  given_back-after given p asked None r does = given_back-with p (commit_of given h p) asked r does

-- ---- what a block keeps

-- what a block of the act, whole or cut short, keeps
pub record Keeps (given : Given) (a : Act) (h h' : List Event)
    (r : Result (Unit {0}) EngineFault) : Type 0 where
  pub follow : (steps : List RunStep) → may_begin given steps h a ≡ true
      → follows given steps h ≡ true → follows given steps h' ≡ true
  pub whole : OnOk r ((place_of given h).left ≡ []
      → place_of given h' ≡ next_place (place_of given h))
  pub paced : (steps : List RunStep) → may_begin given steps h a ≡ true → AnyMayCome given h
      → is_paced given steps h ≡ true → is_paced given steps h' ≡ true
  pub goes_on : AnyMayCome given h → AnyMayCome given h'

-- an answer that is no refusal
ok-whole : {P : Type 0} (r : Result (Unit {0}) EngineFault) → r ≡ Ok tt → P → OnOk r P
ok-whole (Ok done) is p = p
ok-whole (Err fault) is p = cc

err-whole : (P : Type 0) (r : Result (Unit {0}) EngineFault) (fault : EngineFault) → r ≡ Err fault
    → OnOk r P
err-whole P (Ok done) fault is = cc
err-whole P (Err other) fault is = tt

-- nothing was added
keeps-none : (given : Given) (a : Act) (h h' : List Event) (r : Result (Unit {0}) EngineFault)
    (fault : EngineFault) → r ≡ Err fault → h' ≡ h → Keeps given a h h' r
keeps-none given a h h' r fault is same = record {
  follow = λ steps may goes. subst (λ (k : List Event). follows given steps k ≡ true) (sym same) goes;
  whole = err-whole _ r fault is;
  paced = λ steps may any paced. subst (λ (k : List Event). is_paced given steps k ≡ true)
      (sym same) paced;
  goes_on = λ any. subst (λ (k : List Event). AnyMayCome given k) (sym same) any;
}

-- these events were added, which keep it
keeps-comes : (given : Given) (a : Act) (es h h' : List Event) (r : Result (Unit {0}) EngineFault)
    → Keeps given a h (es ++ h) (Ok tt) → Comes es h h' r → Keeps given a h h' r
keeps-comes given a es h h' r keeps (Refused fault is same) = keeps-none given a h h' r fault is same
keeps-comes given a es h h' r keeps (Whole is same) =
    subst (λ (k : List Event). Keeps given a h k r) (sym same)
    (subst (λ (x : Result (Unit {0}) EngineFault). Keeps given a h (es ++ h) x) (sym is) keeps)

-- ---- the place

assign-place : (place : Place) → place.left ≡ [] → after_assign place.begun place.left
    ≡ next_place place
assign-place place none = ap (λ (left : List ℕ). after_assign place.begun left) none

again-place : (place : Place) (p : ℕ) (ps : List ℕ) → place.left ≡ p ∷ ps
    → after_assign place.begun place.left ≡ record { begun = place.begun; left = ps }
again-place place p ps is = ap (λ (left : List ℕ). after_assign place.begun left) is

-- a block that leaves no part to be assigned again
one-place : (place : Place) → place.left ≡ []
    → record { begun = place.begun + 1; left = place.left } ≡ next_place place
one-place place none =
    ap (λ (left : List ℕ). record { begun = place.begun + 1; left = left }) none

-- ---- the acts

module _ (given : Given) (h : List Event) where
  may-nil : (steps : List RunStep) (a : Act) → may_begin given steps h a ≡ true
      → is_nil (place_of given h).left ≡ true
  may-nil steps a may = (and_parts (is_nil (place_of given h).left) _ may).0

  keeps-assign : (p epoch position : ℕ) (text : List ℕ)
      → Keeps given (act.Assign p) h (Assign p epoch position text ∷ h) (Ok tt)
  keeps-assign p epoch position text = record {
    follow = λ steps may goes. and_from
        (is_next_part (place_of given h).left p || may_begin given steps h (act.Assign p))
        (follows given steps h)
        (or_right (is_next_part (place_of given h).left p)
        (may_begin given steps h (act.Assign p)) may) goes;
    whole = λ none. assign-place (place_of given h) none;
    paced = λ steps may any paced. and_from (goes_with given h (Assign p epoch position text))
        (is_paced given steps h) (any (Assign p epoch position text)) paced;
    goes_on = λ any e. refl;
  }

  keeps-lost : (p epoch : ℕ) → Keeps given (act.Lose p) h (Lost p epoch ∷ h) (Ok tt)
  keeps-lost p epoch = record {
    follow = λ steps may goes. and_from (may_begin given steps h (act.Lose p))
        (follows given steps h) may goes;
    whole = λ none. one-place (place_of given h) none;
    paced = λ steps may any paced. and_from (goes_with given h (Lost p epoch))
        (is_paced given steps h) (any (Lost p epoch)) paced;
    goes_on = λ any e. refl;
  }

  -- what the commit of a revocation is
  record IsBefore (p : ℕ) (c : Event) : Type 0 where
    place : place_of given (c ∷ h) ≡ place_of given h
    follow : (steps : List RunStep) → follows_at given steps c h ≡ is_nil (place_of given h).left
    pace : (steps : List RunStep) → is_paced_at given steps c h ≡ may_commit given steps h p
    revoked : (epoch : ℕ) → goes_with given (c ∷ h) (Revoke p epoch) ≡ true

  before : (p : ℕ) (c : Event) → IsCommitOf p c → IsBefore p c
  before p c (Stored position text size is) = subst (λ (e : Event). IsBefore p e) (sym is) (record {
    place = refl;
    follow = λ steps. refl;
    pace = λ steps. refl;
    revoked = λ epoch. or_right (is_commit_paced given h p) (p == p) (eq-eqb p p refl);
  })
  before p c (Failed position text size is) = subst (λ (e : Event). IsBefore p e) (sym is) (record {
    place = refl;
    follow = λ steps. refl;
    pace = λ steps. refl;
    revoked = λ epoch. or_right (is_commit_due given h p) (p == p) (eq-eqb p p refl);
  })

  keeps-revoke : (p epoch : ℕ) (c : Event) → IsCommitOf p c
      → Keeps given (act.Revoke p) h (Revoke p epoch ∷ c ∷ h) (Ok tt)
  keeps-revoke p epoch c is =
      let b = before p c is in
      record {
        follow = λ steps may goes. and_from (may_begin given steps h (act.Revoke p))
            (follows given steps (c ∷ h)) may
            (and_from (follows_at given steps c h) (follows given steps h)
            (b.follow steps ∙ may-nil steps (act.Revoke p) may) goes);
        whole = λ none. ap (λ (place : Place). record {
          begun = place.begun + 1;
          left = place.left;
        }) b.place ∙ one-place (place_of given h) none;
        paced = λ steps may any paced. and_from (goes_with given (c ∷ h) (Revoke p epoch))
            (is_paced given steps (c ∷ h)) (b.revoked epoch)
            (and_from (is_paced_at given steps c h) (goes_with given h c && is_paced given steps h)
            (b.pace steps ∙ or_right (is_commit_paced given h p)
            (may_begin given steps h (act.Revoke p)) may)
            (and_from (goes_with given h c) (is_paced given steps h) (any c) paced));
        goes_on = λ any e. refl;
      }

-- ---- the parts that are assigned again

-- what the assignments of these parts, which are left, keep
pub record KeepsAgain (given : Given) (ps : List ℕ) (h h' : List Event)
    (r : Result (Unit {0}) EngineFault) : Type 0 where
  pub follow : (steps : List RunStep) → (place_of given h).left ≡ ps
      → follows given steps h ≡ true → follows given steps h' ≡ true
  pub whole : OnOk r ((place_of given h).left ≡ ps
      → place_of given h' ≡ record { begun = (place_of given h).begun; left = [] })
  pub paced : (steps : List RunStep) → AnyMayCome given h → is_paced given steps h ≡ true
      → is_paced given steps h' ≡ true
  pub goes_on : AnyMayCome given h → AnyMayCome given h'

again-none : (given : Given) (ps : List ℕ) (h h' : List Event) (r : Result (Unit {0}) EngineFault)
    → OnOk r ((place_of given h).left ≡ ps
    → place_of given h' ≡ record { begun = (place_of given h).begun; left = [] }) → h' ≡ h
    → KeepsAgain given ps h h' r
again-none given ps h h' r whole same = record {
  follow = λ steps left goes. subst (λ (k : List Event). follows given steps k ≡ true) (sym same) goes;
  whole = whole;
  paced = λ steps any paced. subst (λ (k : List Event). is_paced given steps k ≡ true)
      (sym same) paced;
  goes_on = λ any. subst (λ (k : List Event). AnyMayCome given k) (sym same) any;
}

no-part : (place : Place) → place.left ≡ [] → place ≡ record { begun = place.begun; left = [] }
no-part place none = ap (λ (left : List ℕ). record { begun = place.begun; left = left }) none

next-part : (left : List ℕ) (p : ℕ) (ps : List ℕ) → left ≡ p ∷ ps → is_next_part left p ≡ true
next-part left p ps is = ap (λ (l : List ℕ). is_next_part l p) is ∙ eq-eqb p p refl

on-ok : {P Q : Type 0} (r : Result (Unit {0}) EngineFault) → (P → Q) → OnOk r P → OnOk r Q
on-ok (Ok done) f p = f p
on-ok (Err fault) f p = tt

-- one part was assigned, and the rest keep it
again-more : (given : Given) (p epoch position : ℕ) (text : List ℕ) (ps : List ℕ)
    (h h' : List Event) (r : Result (Unit {0}) EngineFault)
    → KeepsAgain given ps (Assign p epoch position text ∷ h) h' r
    → KeepsAgain given (p ∷ ps) h h' r
again-more given p epoch position text ps h h' r rest =
    let place = place_of given h in
    let left : place.left ≡ p ∷ ps → (place_of given (Assign p epoch position text ∷ h)).left ≡ ps =
    λ is. ap (λ (x : Place). x.left) (again-place place p ps is) in
    let begun : place.left ≡ p ∷ ps
    → (place_of given (Assign p epoch position text ∷ h)).begun ≡ place.begun =
    λ is. ap (λ (x : Place). x.begun) (again-place place p ps is) in
    record {
      follow = λ steps is goes. rest.follow steps (left is)
          (and_from (is_next_part place.left p || may_begin given steps h (act.Assign p))
          (follows given steps h) (or_left (is_next_part place.left p)
          (may_begin given steps h (act.Assign p)) (next-part place.left p ps is)) goes);
      whole = on-ok r (λ whole is. whole (left is)
          ∙ ap (λ (n : ℕ). record { begun = n; left = [] }) (begun is)) rest.whole;
      paced = λ steps any paced. rest.paced steps (λ e. refl)
          (and_from (goes_with given h (Assign p epoch position text)) (is_paced given steps h)
          (any (Assign p epoch position text)) paced);
      goes_on = λ any. rest.goes_on (λ e. refl);
    }

-- by what the first call did
again-by : (told : Bool) (given : Given) (p : ℕ) (ps : List ℕ) (a between b : Stand)
    (first r : Result (Unit {0}) EngineFault) (epoch position : ℕ) (text : List ℕ)
    → (AssignsAll told given ps between b r → KeepsAgain given ps between.history b.history r)
    → Comes (Assign p epoch position text ∷ []) a.history between.history first
    → Then first (AssignsAll told given ps between b r) between b r
    → KeepsAgain given (p ∷ ps) a.history b.history r
again-by told given p ps a between b (Ok done) r epoch position text step (Refused fault is same) rest = cc
again-by told given p ps a between b (Err other) r epoch position text step (Whole is same) rest = cc
again-by told given p ps a between b (Ok done) r epoch position text step (Whole is same) rest =
    again-more given p epoch position text ps a.history b.history r
    (subst (λ (k : List Event). KeepsAgain given ps k b.history r) same (step rest))
again-by told given p ps a between b (Err other) r epoch position text step (Refused fault is same) rest =
    again-none given (p ∷ ps) a.history b.history r (err-whole _ r other rest.1)
    (ap (λ (s : Stand). s.history) rest.0 ∙ same)

keeps-again : (told : Bool) (given : Given) (ps : List ℕ) (a b : Stand)
    (r : Result (Unit {0}) EngineFault) → AssignsAll told given ps a b r
    → KeepsAgain given ps a.history b.history r
unfolding AssignsAll
keeps-again told given [] a b r all =
    again-none given [] a.history b.history r
    (ok-whole r all.1 (λ none. ap (λ (s : Stand). place_of given s.history) all.0
    ∙ no-part (place_of given a.history) none))
    (ap (λ (s : Stand). s.history) all.0)
keeps-again told given (p ∷ ps) a b r (first, between, assigns, rest) =
    let one = assigned-after a.history between.history given p assigns.asked
    (assign_refusal given a.history p) first assigns.does in
    again-by told given p ps a between b first r one.0 one.1 one.2
    (λ all. keeps-again told given ps between b r all) one.3 rest

-- ---- a crash

crash-place : (given : Given) (h : List Event) → (place_of given h).left ≡ []
    → record { begun = (place_of given (Crash ∷ h)).begun; left = [] } ≡ next_place (place_of given h)
crash-place given h none = refl

-- the crash, and what the parts that were held keep
crash-more : (given : Given) (h h' : List Event) (r : Result (Unit {0}) EngineFault)
    → KeepsAgain given (held_parts given h) (Crash ∷ h) h' r → Keeps given act.Crash h h' r
crash-more given h h' r rest = record {
  follow = λ steps may goes. rest.follow steps refl
      (and_from (may_begin given steps h act.Crash) (follows given steps h) may goes);
  whole = on-ok r (λ whole none. whole refl) rest.whole;
  paced = λ steps may any paced. rest.paced steps (λ e. refl)
      (and_from (goes_with given h Crash) (is_paced given steps h) (any Crash) paced);
  goes_on = λ any. rest.goes_on (λ e. refl);
}

crash-by : (told : Bool) (given : Given) (a between b : Stand)
    (first r : Result (Unit {0}) EngineFault)
    → Comes (Crash ∷ []) a.history between.history first
    → Then first (AssignsAll told given (held_parts given a.history) between b r) between b r
    → Keeps given act.Crash a.history b.history r
crash-by told given a between b (Ok done) r (Refused fault is same) rest = cc
crash-by told given a between b (Err other) r (Whole is same) rest = cc
crash-by told given a between b (Ok done) r (Whole is same) rest =
    crash-more given a.history b.history r
    (subst (λ (k : List Event). KeepsAgain given (held_parts given a.history) k b.history r) same
    (keeps-again told given (held_parts given a.history) between b r rest))
crash-by told given a between b (Err other) r (Refused fault is same) rest =
    keeps-none given act.Crash a.history b.history r other rest.1
    (ap (λ (s : Stand). s.history) rest.0 ∙ same)

-- ---- a step

-- what the calls of an act keep
pub keeps-applied : (told : Bool) (given : Given) (a : Act) (before after : Stand)
    (r : Result (Unit {0}) EngineFault) → Applies told given a before after r
    → Keeps given a before.history after.history r
keeps-applied told given (act.Assign p) before after r assigns =
    let one = assigned-after before.history after.history given p assigns.asked
    (assign_refusal given before.history p) r assigns.does in
    keeps-comes given (act.Assign p) (Assign p one.0 one.1 one.2 ∷ []) before.history after.history r
    (keeps-assign given before.history p one.0 one.1 one.2) one.3
keeps-applied told given (act.Revoke p) before after r revokes =
    let one = given_back-after before.history after.history given p revokes.asked
    (revoke_refusal given before.history p) r revokes.does in
    keeps-comes given (act.Revoke p) (Revoke p one.0 ∷ one.1 ∷ []) before.history after.history r
    (keeps-revoke given before.history p one.0 one.1 one.2) one.3
keeps-applied told given (act.Lose p) before after r loses =
    keeps-comes given (act.Lose p) (Lost p (epoch_of before.history p) ∷ []) before.history
    after.history r (keeps-lost given before.history p (epoch_of before.history p))
    (comes-lost before.history after.history p (lose_refusal given before.history p) r loses.does)
keeps-applied told given act.Crash before after r crashes =
    crash-by told given before crashes.between after crashes.first r
    (comes-crash before.history crashes.between.history (crash_refusal before.history)
    crashes.first crashes.crashes.does) crashes.assigns
