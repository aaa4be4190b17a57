-- Which events a step adds, at which part it stops, and that it stops where the journal is full.
use Rattle.std.proofs.Common.{◌≡◌, ◌∙◌, ℕ, ◌≤◌, Bool, true, false, inl, inr, List, [], ◌∷◌, ◌++◌, Option, Some, None, Result, Ok, Err, refl, ap, sym, subst, arith}
use Rattle.std.specs.Prelude.{if◌then◌else◌, not, ◌==◌, length, ◌+◌, ◌<◌, IfErr}
use Rattle.std.specs.List.{list_all}
use Rattle.std.proofs.Math.Nat.{le_trans}
use Rattle.std.proofs.lemmas.Bool.{and_from, cases_Bool, eq-eqb, ltb-true, lt-ltb}
use Rattle.std.proofs.lemmas.List.{append_assoc}
use Rattle.std.proofs.lemmas.List.Folds.{list_all-append}
use Rattle.pc_model.specs.declared.commit.Commit.{Commit}
use Rattle.pc_model.specs.declared.commit.SizedCommit.{SizedCommit}
use Rattle.pc_model.specs.declared.event.Event.{Event}
use Rattle.pc_model.specs.declared.event.Event.TheVariants.{Assign, Commit as Committed, CommitFailed, Revoke, Lost, Crash}
use Rattle.pc_model.specs.declared.limits.TheConstants.{MAX_EVENTS}
use Rattle.pc_model.specs.declared.map_fault.MapFault.{MapFault}
use Rattle.pc_model.specs.declared.step.Act.{Act}
use Rattle.pc_model.specs.declared.step.Act.TheVariants as act
use Rattle.pc_model.specs.Given.{Given, has_log}
use Rattle.pc_model.specs.Jobs.{has_ended, is_draining, open_jobs}
use Rattle.pc_model.specs.Epochs.{epoch_of, is_held}
use Rattle.pc_model.specs.Known.{commit_of}
use Rattle.pc_model.specs.Lawful.{held_parts}
use Rattle.pc_offset_client.specs.declared.fault.ClientFault.{ClientFault}
use Rattle.pc_offset_client.specs.declared.fault.ClientFault.TheVariants as client
use Rattle.pc_commit.specs.Resume.{map_refusal}
use Rattle.pc_engine.specs.declared.fault.EngineFault.{EngineFault}
use Rattle.pc_engine.specs.declared.fault.EngineFault.TheVariants.{AlreadyHeld, BadMap, Client, Closed, Draining, JournalFull, NoMemory, NotHeld, UnknownPart}
use Rattle.pc_engine.specs.Effect.{Does, assign_after, assign_refusal, assign_with, crash_after, crash_refusal, is_full, lose_after, lose_refusal, refuses, revoke_after, revoke_refusal, revoke_with}
use Rattle.pc_engine.specs.Fault.{engine_fault_of}
use Rattle.pc_engine.specs.Stand.{Stand}
use Rattle.pc_rebalance.specs.Apply.{Applies, Assigns, AssignsAll, Then, outcome_alone}
use Rattle.pc_rebalance.specs.Block.{AddsBlock, assigned_parts, is_event_of}
use Rattle.pc_rebalance.specs.Stop.{IsOfPart, StopsAt, first_free}
use Rattle.pc_rebalance.proofs.BlockLemmas.{Comes, IsCommitOf, assigned-after, comes-crash, comes-lost, comes-whole, given_back-after}
use Rattle.pc_rebalance.proofs.BlockLemmas.Comes.{Refused, Whole}
use Rattle.pc_rebalance.proofs.BlockLemmas.IsCommitOf.{Stored, Failed}
use Rattle.pc_rebalance.proofs.RefusalLemmas.{same-fault}

-- ---- what a block adds

module _ (a : Act) (h h' : List Event) where
  adds-none : h' ≡ h → AddsBlock a h h'
  adds-none same = record { events = []; is = same; are = refl }

  adds-comes : (es : List Event) (r : Result (Unit {0}) EngineFault)
      → list_all (is_event_of a) es ≡ true → Comes es h h' r → AddsBlock a h h'
  adds-comes es r are (Refused fault is same) = adds-none same
  adds-comes es r are (Whole is same) = record { events = es; is = same; are = are }

  adds-more : (h'' : List Event) → AddsBlock a h h' → AddsBlock a h' h'' → AddsBlock a h h''
  adds-more h'' first next = record {
    events = next.events ++ first.events;
    is =
        let joined : next.events ++ (first.events ++ h) ≡ (next.events ++ first.events) ++ h =
        simp append_assoc in
        next.is ∙ ap (λ (l : List Event). next.events ++ l) first.is ∙ joined;
    are = list_all-append (is_event_of a) next.events first.events
        ∙ and_from (list_all (is_event_of a) next.events) (list_all (is_event_of a) first.events)
        next.are first.are;
  }

commit-of : (p : ℕ) (c : Event) → IsCommitOf p c → is_event_of (act.Revoke p) c ≡ true
commit-of p c (Stored position text size is) =
    ap (λ (e : Event). is_event_of (act.Revoke p) e) is ∙ eq-eqb p p refl
commit-of p c (Failed position text size is) =
    ap (λ (e : Event). is_event_of (act.Revoke p) e) is ∙ eq-eqb p p refl

adds-all : (told : Bool) (given : Given) (ps : List ℕ) (a b : Stand)
    (r : Result (Unit {0}) EngineFault) → AssignsAll told given ps a b r
    → AddsBlock act.Crash a.history b.history
unfolding AssignsAll
adds-all told given [] a b r all =
    adds-none act.Crash a.history b.history (ap (λ (s : Stand). s.history) all.0)
adds-all told given (p ∷ ps) a b r (Ok done, between, assigns, rest) =
    let one = assigned-after a.history between.history given p assigns.asked
    (assign_refusal given a.history p) (Ok done) assigns.does in
    adds-more act.Crash a.history between.history b.history
    (adds-comes act.Crash a.history between.history (Assign p one.0 one.1 one.2 ∷ []) (Ok done) refl
    one.3)
    (adds-all told given ps between b r rest)
adds-all told given (p ∷ ps) a b r (Err fault, between, assigns, rest) =
    let one = assigned-after a.history between.history given p assigns.asked
    (assign_refusal given a.history p) (Err fault) assigns.does in
    subst (λ (s : Stand). AddsBlock act.Crash a.history s.history) (sym rest.0)
    (adds-comes act.Crash a.history between.history (Assign p one.0 one.1 one.2 ∷ []) (Err fault)
    refl one.3)

adds-crash : (told : Bool) (given : Given) (a between b : Stand)
    (first r : Result (Unit {0}) EngineFault)
    → Comes (Crash ∷ []) a.history between.history first
    → Then first (AssignsAll told given (held_parts given a.history) between b r) between b r
    → AddsBlock act.Crash a.history b.history
adds-crash told given a between b (Ok done) r came rest =
    adds-more act.Crash a.history between.history b.history
    (adds-comes act.Crash a.history between.history (Crash ∷ []) (Ok done) refl came)
    (adds-all told given (held_parts given a.history) between b r rest)
adds-crash told given a between b (Err fault) r came rest =
    subst (λ (s : Stand). AddsBlock act.Crash a.history s.history) (sym rest.0)
    (adds-comes act.Crash a.history between.history (Crash ∷ []) (Err fault) refl came)

-- a step adds events of its block alone
pub applied-adds : (told : Bool) (given : Given) (a : Act) (before after : Stand)
    (r : Result (Unit {0}) EngineFault) → Applies told given a before after r
    → AddsBlock a before.history after.history
applied-adds told given (act.Assign p) before after r assigns =
    let one = assigned-after before.history after.history given p assigns.asked
    (assign_refusal given before.history p) r assigns.does in
    adds-comes (act.Assign p) before.history after.history (Assign p one.0 one.1 one.2 ∷ []) r
    (and_from (p == p) true (eq-eqb p p refl) refl) one.3
applied-adds told given (act.Revoke p) before after r revokes =
    let one = given_back-after before.history after.history given p revokes.asked
    (revoke_refusal given before.history p) r revokes.does in
    adds-comes (act.Revoke p) before.history after.history (Revoke p one.0 ∷ one.1 ∷ []) r
    (and_from (p == p) (list_all (is_event_of (act.Revoke p)) (one.1 ∷ [])) (eq-eqb p p refl)
    (and_from (is_event_of (act.Revoke p) one.1) true (commit-of p one.1 one.2) refl)) one.3
applied-adds told given (act.Lose p) before after r loses =
    adds-comes (act.Lose p) before.history after.history
    (Lost p (epoch_of before.history p) ∷ []) r (and_from (p == p) true (eq-eqb p p refl) refl)
    (comes-lost before.history after.history p (lose_refusal given before.history p) r loses.does)
applied-adds told given act.Crash before after r crashes =
    adds-crash told given before crashes.between after crashes.first r
    (comes-crash before.history crashes.between.history (crash_refusal before.history)
    crashes.first crashes.crashes.does) crashes.assigns

-- ---- what a revocation adds

-- nothing, or the commit of the part, stored or failed, and then the revocation
pub data GivesBack (p : ℕ) (c : SizedCommit) (asked : Result (Unit {0}) ClientFault)
    (h h' : List Event) : Type 0 where
  Same : h' ≡ h → GivesBack p c asked h h'
  Saved : (epoch : ℕ)
      → h' ≡ Revoke p epoch ∷ Committed p c.commit.position c.commit.map c.size ∷ h
      → GivesBack p c asked h h'
  Unsaved : (epoch : ℕ) (failed : ClientFault) → asked ≡ Err failed
      → (failed ≡ client.NoMemory → ⊥)
      → h' ≡ Revoke p epoch ∷ CommitFailed p c.commit.position c.commit.map c.size ∷ h
      → GivesBack p c asked h h'

module _ (h h' : List Event) (p : ℕ) (c : SizedCommit) (asked : Result (Unit {0}) ClientFault) where
  back-saved : (epoch : ℕ) (r : Result (Unit {0}) EngineFault)
      → Comes (Revoke p epoch ∷ Committed p c.commit.position c.commit.map c.size ∷ []) h h' r
      → GivesBack p c asked h h'
  back-saved epoch r (Refused fault is same) = Same same
  back-saved epoch r (Whole is same) = Saved epoch same

  back-unsaved : (epoch : ℕ) (failed : ClientFault) (r : Result (Unit {0}) EngineFault)
      → asked ≡ Err failed → (failed ≡ client.NoMemory → ⊥)
      → Comes (Revoke p epoch ∷ CommitFailed p c.commit.position c.commit.map c.size ∷ []) h h' r
      → GivesBack p c asked h h'
  back-unsaved epoch failed r asks memory (Refused fault is same) = Same same
  back-unsaved epoch failed r asks memory (Whole is same) =
      Unsaved epoch failed asks memory same

  back-none : (r : Result (Unit {0}) EngineFault) (fault : EngineFault)
      → Does r (refuses fault) h h' → GivesBack p c asked h h'
  back-none (Ok done) fault does = let is : Ok done ≡ Err fault = does.0 in cc
  back-none (Err NoMemory) fault does = Same does
  back-none (Err other) fault does = Same does.1

gives-back-with : (h h' : List Event) (p : ℕ) (c : SizedCommit)
    (asked : Result (Unit {0}) ClientFault) (r : Result (Unit {0}) EngineFault) → Does r (record {
      answer = outcome_alone (revoke_with h p c asked).answer;
      events = (revoke_with h p c asked).events;
    }) h h' → GivesBack p c asked h h'
gives-back-with h h' p c (Ok done) r does = back-saved h h' p c (Ok done) (epoch_of h p) r
    (comes-whole h h' (Revoke p (epoch_of h p)
    ∷ Committed p c.commit.position c.commit.map c.size ∷ []) r does)
gives-back-with h h' p c (Err client.NoMemory) r does =
    back-none h h' p c (Err client.NoMemory) r NoMemory does
gives-back-with h h' p c (Err failed) r does =
    back-unsaved h h' p c (Err failed) (epoch_of h p) failed r refl (λ is. cc)
    (comes-whole h h' (Revoke p (epoch_of h p)
    ∷ CommitFailed p c.commit.position c.commit.map c.size ∷ []) r does)

pub gives-back : (given : Given) (h h' : List Event) (p : ℕ) (asked : Result (Unit {0}) ClientFault)
    (x : Option EngineFault) (r : Result (Unit {0}) EngineFault) → Does r (record {
      answer = outcome_alone (revoke_after given h p asked x).answer;
      events = (revoke_after given h p asked x).events;
    }) h h' → GivesBack p (commit_of given h p) asked h h'
gives-back given h h' p asked (Some fault) r does =
    back-none h h' p (commit_of given h p) asked r fault does
gives-back given h h' p asked None r does =
    gives-back-with h h' p (commit_of given h p) asked r does

-- ---- where it stops

refused-same : (es h h' : List Event) (fault : EngineFault) → Comes es h h' (Err fault) → h' ≡ h
refused-same es h h' fault (Refused other is same) = same
refused-same es h h' fault (Whole is same) = cc

-- no refusal of an assignment's own is of one part
own-of : (a b c d e : Bool) (fault : EngineFault) → IsOfPart fault → (if a then Some Closed
    else if b then Some UnknownPart else if c then Some Draining else if d then Some AlreadyHeld
    else if e then Some JournalFull else None) ≡ Some fault → ⊥
own-of true b c d e fault of is =
    let same : Closed ≡ fault = cc in subst IsOfPart (sym same) of
own-of false true c d e fault of is =
    let same : UnknownPart ≡ fault = cc in subst IsOfPart (sym same) of
own-of false false true d e fault of is =
    let same : Draining ≡ fault = cc in subst IsOfPart (sym same) of
own-of false false false true e fault of is =
    let same : AlreadyHeld ≡ fault = cc in subst IsOfPart (sym same) of
own-of false false false false true fault of is =
    let same : JournalFull ≡ fault = cc in subst IsOfPart (sym same) of
own-of false false false false false fault of is = cc

-- and a part that may be assigned is not held
free-of : (a b c d e : Bool) → (if a then Some Closed else if b then Some UnknownPart
    else if c then Some Draining else if d then Some AlreadyHeld
    else if e then Some JournalFull else None) ≡ None → d ≡ false
free-of true b c d e is = cc
free-of false true c d e is = cc
free-of false false true d e is = cc
free-of false false false true e is = cc
free-of false false false false e is = refl

first-found : (h : List Event) (p : ℕ) (ps : List ℕ) → is_held h p ≡ false
    → first_free h (p ∷ ps) ≡ Some p
first-found h p ps free = rw free refl

first-next : (h : List Event) (p : ℕ) (ps : List ℕ) → is_held h p ≡ true
    → first_free h (p ∷ ps) ≡ first_free h ps
first-next h p ps held = rw held refl

assigned-held : (h : List Event) (p q epoch position : ℕ) (text : List ℕ) → is_held h q ≡ true
    → is_held (Assign p epoch position text ∷ h) q ≡ true
assigned-held h p q epoch position text held = elim (cases_Bool (p == q)) [
  | inl same ↦ rw same refl
  | inr apart ↦ rw apart held
]

module _ (h h' : List Event) (p epoch position : ℕ) (text : List ℕ) where
  stays-held : (q : ℕ) (r : Result (Unit {0}) EngineFault)
      → Comes (Assign p epoch position text ∷ []) h h' r → is_held h q ≡ true
      → is_held h' q ≡ true
  stays-held q r (Refused fault is same) held =
      ap (λ (k : List Event). is_held k q) same ∙ held
  stays-held q r (Whole is same) held =
      ap (λ (k : List Event). is_held k q) same ∙ assigned-held h p q epoch position text held

  now-held : (done : Unit {0}) → Comes (Assign p epoch position text ∷ []) h h' (Ok done)
      → is_held h' p ≡ true
  now-held done (Refused fault is same) = cc
  now-held done (Whole is same) =
      let this : is_held (Assign p epoch position text ∷ h) p ≡ true = rw (eq-eqb p p refl) refl in
      ap (λ (k : List Event). is_held k p) same ∙ this

module _ (told : Bool) (given : Given) where
  all-held : (ps : List ℕ) (a b : Stand) (r : Result (Unit {0}) EngineFault) (q : ℕ)
      → AssignsAll told given ps a b r → is_held a.history q ≡ true → is_held b.history q ≡ true
  unfolding AssignsAll
  all-held [] a b r q all held = ap (λ (s : Stand). is_held s.history q) all.0 ∙ held
  all-held (p ∷ ps) a b r q (Ok done, between, assigns, rest) held =
      let one = assigned-after a.history between.history given p assigns.asked
      (assign_refusal given a.history p) (Ok done) assigns.does in
      all-held ps between b r q rest
      (stays-held a.history between.history p one.0 one.1 one.2 q (Ok done) one.3 held)
  all-held (p ∷ ps) a b r q (Err fault, between, assigns, rest) held =
      let one = assigned-after a.history between.history given p assigns.asked
      (assign_refusal given a.history p) (Err fault) assigns.does in
      ap (λ (s : Stand). is_held s.history q) rest.0
      ∙ stays-held a.history between.history p one.0 one.1 one.2 q (Err fault) one.3 held

  asked-none : (h h' : List Event) (p : ℕ) (asked : Result Commit ClientFault)
      (x : Option EngineFault) (fault : EngineFault) → IsOfPart fault
      → ((other : EngineFault) → IsOfPart other → x ≡ Some other → ⊥)
      → Does (Err fault) (assign_after given h p asked x) h h' → x ≡ None
  asked-none h h' p asked None fault of never does = refl
  asked-none h h' p asked (Some other) (Client failed) of never does =
      absurd (never (Client failed) tt
      (ap (λ (f : EngineFault). Some f) (sym (same-fault (Client failed) other does.0))))
  asked-none h h' p asked (Some other) (BadMap bad) of never does =
      absurd (never (BadMap bad) tt
      (ap (λ (f : EngineFault). Some f) (sym (same-fault (BadMap bad) other does.0))))
  asked-none h h' p asked (Some other) fault of never does = absurd of

  stops-first : (p : ℕ) (ps : List ℕ) (a b : Stand) (fault : EngineFault) → IsOfPart fault
      → Assigns told given p a b (Err fault) → StopsAt told given (p ∷ ps) a b fault p
  stops-first p ps a b fault of assigns =
      let one = assigned-after a.history b.history given p assigns.asked
      (assign_refusal given a.history p) (Err fault) assigns.does in
      let same = refused-same (Assign p one.0 one.1 one.2 ∷ []) a.history b.history fault one.3 in
      let none = asked-none a.history b.history p assigns.asked (assign_refusal given a.history p)
      fault of (own-of (has_ended a.history) (not (has_log given p)) (is_draining a.history)
      (is_held a.history p) (is_full a.history 1)) assigns.does in
      record {
        first = first-found b.history p ps
            (ap (λ (k : List Event). is_held k p) same
            ∙ free-of (has_ended a.history) (not (has_log given p)) (is_draining a.history)
            (is_held a.history p) (is_full a.history 1) none);
        between = a;
        assigns = assigns;
        asked = none;
        history = same;
        store = λ is. refl;
        later = omega arith;
      }

  stops-all : (ps : List ℕ) (a b : Stand) (fault : EngineFault) → IsOfPart fault
      → AssignsAll told given ps a b (Err fault) → (p : ℕ) × StopsAt told given ps a b fault p
  unfolding AssignsAll
  stops-all [] a b fault of all = let is : Err fault ≡ Ok tt = all.1 in cc
  stops-all (p ∷ ps) a b fault of (Ok done, between, assigns, rest) =
      let one = assigned-after a.history between.history given p assigns.asked
      (assign_refusal given a.history p) (Ok done) assigns.does in
      let held = all-held ps between b (Err fault) p rest
      (now-held a.history between.history p one.0 one.1 one.2 done one.3) in
      let later = stops-all ps between b fault of rest in (
        later.0,
        record {
          first = first-next b.history p ps held ∙ later.1.first;
          between = later.1.between;
          assigns = later.1.assigns;
          asked = later.1.asked;
          history = later.1.history;
          store = λ is. later.1.store is ∙ assigns.keeps is;
          later = le_trans assigns.later later.1.later;
        },
      )
  stops-all (p ∷ ps) a b fault of (Err other, between, assigns, rest) =
      let is : Err other ≡ Err fault = sym rest.1 in (
        p,
        stops-first p ps a b fault of
            (subst (λ (s : Stand). Assigns told given p a s (Err fault)) (sym rest.0)
            (subst (λ (r : Result (Unit {0}) EngineFault). Assigns told given p a between r) is assigns)),
      )

-- a crash alone is never refused so
crash-never : (h h' : List Event) (x : Option EngineFault) (fault : EngineFault) → IsOfPart fault
    → ((other : EngineFault) → IsOfPart other → x ≡ Some other → ⊥)
    → Does (Err fault) (crash_after x) h h' → ⊥
crash-never h h' None (Client failed) of never does =
    let is : Err (Client failed) ≡ Ok tt = does.0 in cc
crash-never h h' None (BadMap bad) of never does =
    let is : Err (BadMap bad) ≡ Ok tt = does.0 in cc
crash-never h h' (Some other) (Client failed) of never does =
    never (Client failed) tt
    (ap (λ (f : EngineFault). Some f) (sym (same-fault (Client failed) other does.0)))
crash-never h h' (Some other) (BadMap bad) of never does =
    never (BadMap bad) tt
    (ap (λ (f : EngineFault). Some f) (sym (same-fault (BadMap bad) other does.0)))
crash-never h h' x fault of never does = absurd of

crash-own : (a b : Bool) (fault : EngineFault) → IsOfPart fault
    → (if a then Some Closed else if b then Some JournalFull else None) ≡ Some fault → ⊥
crash-own true b fault of is = let same : Closed ≡ fault = cc in subst IsOfPart (sym same) of
crash-own false true fault of is =
    let same : JournalFull ≡ fault = cc in subst IsOfPart (sym same) of
crash-own false false fault of is = cc

-- nor is a loss, or a revocation
held-own : (a b c d : Bool) (fault : EngineFault) → IsOfPart fault → (if a then Some Closed
    else if b then Some UnknownPart else if c then Some NotHeld
    else if d then Some JournalFull else None) ≡ Some fault → ⊥
held-own true b c d fault of is = let same : Closed ≡ fault = cc in subst IsOfPart (sym same) of
held-own false true c d fault of is =
    let same : UnknownPart ≡ fault = cc in subst IsOfPart (sym same) of
held-own false false true d fault of is =
    let same : NotHeld ≡ fault = cc in subst IsOfPart (sym same) of
held-own false false false true fault of is =
    let same : JournalFull ≡ fault = cc in subst IsOfPart (sym same) of
held-own false false false false fault of is = cc

module _ (h h' : List Event) (p : ℕ) where
  lose-never : (x : Option EngineFault) (fault : EngineFault) → IsOfPart fault
      → ((other : EngineFault) → IsOfPart other → x ≡ Some other → ⊥)
      → Does (Err fault) (lose_after h p x) h h' → ⊥
  lose-never None (Client failed) of never does =
      let is : Err (Client failed) ≡ Ok tt = does.0 in cc
  lose-never None (BadMap bad) of never does =
      let is : Err (BadMap bad) ≡ Ok tt = does.0 in cc
  lose-never (Some other) (Client failed) of never does =
      never (Client failed) tt
      (ap (λ (f : EngineFault). Some f) (sym (same-fault (Client failed) other does.0)))
  lose-never (Some other) (BadMap bad) of never does =
      never (BadMap bad) tt
      (ap (λ (f : EngineFault). Some f) (sym (same-fault (BadMap bad) other does.0)))
  lose-never x fault of never does = absurd of

  revoke-own : (given : Given) (asked : Result (Unit {0}) ClientFault) (x : Option EngineFault)
      (fault : EngineFault) → IsOfPart fault
      → ((other : EngineFault) → IsOfPart other → x ≡ Some other → ⊥)
      → Err fault ≡ outcome_alone (revoke_after given h p asked x).answer → ⊥
  revoke-own given asked (Some other) fault of never is =
      never fault of (ap (λ (f : EngineFault). Some f) (sym (same-fault fault other is)))
  revoke-own given (Ok done) None fault of never is = cc
  revoke-own given (Err client.NoMemory) None fault of never is =
      let same : fault ≡ NoMemory = same-fault fault NoMemory is in subst IsOfPart same of
  revoke-own given (Err failed) None fault of never is = cc

  revoke-never : (given : Given) (asked : Result (Unit {0}) ClientFault) (x : Option EngineFault)
      (fault : EngineFault) → IsOfPart fault
      → ((other : EngineFault) → IsOfPart other → x ≡ Some other → ⊥)
      → Does (Err fault) (record {
        answer = outcome_alone (revoke_after given h p asked x).answer;
        events = (revoke_after given h p asked x).events;
      }) h h' → ⊥
  revoke-never given asked x (Client failed) of never does =
      revoke-own given asked x (Client failed) of never does.0
  revoke-never given asked x (BadMap bad) of never does =
      revoke-own given asked x (BadMap bad) of never does.0
  revoke-never given asked x fault of never does = absurd of

stops-crash : (told : Bool) (given : Given) (a between b : Stand) (fault : EngineFault)
    (first : Result (Unit {0}) EngineFault) → IsOfPart fault
    → Does first (crash_after (crash_refusal a.history)) a.history between.history
    → between.store ≡ a.store → between.faults ≡ a.faults
    → Then first (AssignsAll told given (held_parts given a.history) between b (Err fault)) between b
    (Err fault) → (p : ℕ) × StopsAt told given (held_parts given a.history) a b fault p
stops-crash told given a between b fault (Ok done) of does store faults rest =
    let later = stops-all told given (held_parts given a.history) between b fault of rest in (
      later.0,
      record {
        first = later.1.first;
        between = later.1.between;
        assigns = later.1.assigns;
        asked = later.1.asked;
        history = later.1.history;
        store = λ is. later.1.store is ∙ store;
        later = subst (λ (n : ℕ). n ≤ later.1.between.faults) faults later.1.later;
      },
    )
stops-crash told given a between b fault (Err other) of does store faults rest =
    let same : other ≡ fault = same-fault other fault (sym rest.1) in
    absurd (crash-never a.history between.history (crash_refusal a.history) fault of
    (crash-own (has_ended a.history) (is_full a.history 1))
    (subst (λ (f : EngineFault). Does (Err f) (crash_after (crash_refusal a.history)) a.history
    between.history) same does))

stops-by : (told : Bool) (given : Given) (a : Act) (before after : Stand) (fault : EngineFault)
    → Applies told given a before after (Err fault) → IsOfPart fault
    → (p : ℕ) × StopsAt told given (assigned_parts given before.history a) before after fault p
stops-by told given (act.Assign p) before after fault assigns of =
    (p, stops-first told given p [] before after fault of assigns)
stops-by told given (act.Revoke p) before after fault revokes of =
    absurd (revoke-never before.history after.history p given revokes.asked
    (revoke_refusal given before.history p) fault of (held-own (has_ended before.history)
    (not (has_log given p)) (not (is_held before.history p)) (is_full before.history 2))
    revokes.does)
stops-by told given (act.Lose p) before after fault loses of =
    absurd (lose-never before.history after.history p (lose_refusal given before.history p) fault
    of (held-own (has_ended before.history) (not (has_log given p))
    (not (is_held before.history p)) (is_full before.history 1)) loses.does)
stops-by told given act.Crash before after fault crashes of =
    stops-crash told given before crashes.between after fault crashes.first of
    crashes.crashes.does crashes.crashes.store crashes.crashes.faults crashes.assigns

-- a step that is refused for one part stops at it
pub applied-stops : (told : Bool) (given : Given) (a : Act) (before after : Stand)
    (r : Result (Unit {0}) EngineFault) → Applies told given a before after r
    → IfErr r (λ fault. IsOfPart fault → (p : ℕ) × StopsAt told given
    (assigned_parts given before.history a) before after fault p)
applied-stops told given a before after (Ok done) applies = tt
applied-stops told given a before after (Err fault) applies =
    stops-by told given a before after fault applies

-- ---- where the journal is full

full-two : (h : List Event) (n : ℕ) → n ≤ 2 → is_full h n ≡ true → is_full h 2 ≡ true
full-two h n le full =
    let less : MAX_EVENTS < length h + length (open_jobs h) + n =
    ltb-true MAX_EVENTS (length h + length (open_jobs h) + n) full in
    lt-ltb MAX_EVENTS (length h + length (open_jobs h) + 2) (omega arith)

-- a refusal that is this one
is-full : (full : Bool) → (if full then Some JournalFull else None) ≡ Some JournalFull
    → full ≡ true
is-full true is = refl
is-full false is = cc

full-assign : (a b c d e : Bool) → (if a then Some Closed else if b then Some UnknownPart
    else if c then Some Draining else if d then Some AlreadyHeld
    else if e then Some JournalFull else None) ≡ Some JournalFull → e ≡ true
full-assign true b c d e is = cc
full-assign false true c d e is = cc
full-assign false false true d e is = cc
full-assign false false false true e is = cc
full-assign false false false false e is = is-full e is

full-held : (a b c d : Bool) → (if a then Some Closed else if b then Some UnknownPart
    else if c then Some NotHeld else if d then Some JournalFull else None) ≡ Some JournalFull
    → d ≡ true
full-held true b c d is = cc
full-held false true c d is = cc
full-held false false true d is = cc
full-held false false false d is = is-full d is

full-crash : (a b : Bool) → (if a then Some Closed else if b then Some JournalFull else None)
    ≡ Some JournalFull → b ≡ true
full-crash true b is = cc
full-crash false b is = is-full b is

-- this answer is that refusal
module _ (h h' : List Event) (p : ℕ) where
  some-full : (other : EngineFault)
      → ◌≡◌ {A = Result (Unit {0}) EngineFault} (Err JournalFull) (Err other)
      → Some other ≡ Some JournalFull
  some-full other is =
      ap (λ (f : EngineFault). Some f) (sym (same-fault JournalFull other is))

  with-full : (stored : Commit) (y : Option MapFault)
      → Does (Err JournalFull) (assign_with h p stored y) h h' → ⊥
  with-full stored None does = let is : Err JournalFull ≡ Ok tt = does.0 in cc
  with-full stored (Some bad) does =
      let is = same-fault JournalFull (BadMap bad) does.0 in cc

  client-full : (failed : ClientFault) → JournalFull ≡ engine_fault_of failed → ⊥
  client-full client.NoMemory is = cc
  client-full failed is = cc

  assign-full : (given : Given) (asked : Result Commit ClientFault) (x : Option EngineFault)
      → Does (Err JournalFull) (assign_after given h p asked x) h h' → x ≡ Some JournalFull
  assign-full given asked (Some other) does = some-full other does.0
  assign-full given (Err failed) None does =
      absurd (client-full failed (same-fault JournalFull (engine_fault_of failed) does.0))
  assign-full given (Ok stored) None does = absurd (with-full stored _ does)

  lose-full : (x : Option EngineFault) → Does (Err JournalFull) (lose_after h p x) h h'
      → x ≡ Some JournalFull
  lose-full (Some other) does = some-full other does.0
  lose-full None does = let is : Err JournalFull ≡ Ok tt = does.0 in cc

  revoke-full : (given : Given) (asked : Result (Unit {0}) ClientFault) (x : Option EngineFault)
      → Does (Err JournalFull) (record {
        answer = outcome_alone (revoke_after given h p asked x).answer;
        events = (revoke_after given h p asked x).events;
      }) h h' → x ≡ Some JournalFull
  revoke-full given asked (Some other) does = some-full other does.0
  revoke-full given (Ok done) None does = let is : Err JournalFull ≡ Ok tt = does.0 in cc
  revoke-full given (Err client.NoMemory) None does =
      let is = same-fault JournalFull NoMemory does.0 in cc
  revoke-full given (Err failed) None does = let is : Err JournalFull ≡ Ok tt = does.0 in cc

  crash-full : (x : Option EngineFault) → Does (Err JournalFull) (crash_after x) h h'
      → x ≡ Some JournalFull
  crash-full (Some other) does = some-full other does.0
  crash-full None does = let is : Err JournalFull ≡ Ok tt = does.0 in cc

-- so many places were missing, and nothing was added
full-then : (es h h' : List Event) (n : ℕ) → n ≤ 2 → is_full h n ≡ true
    → Comes es h h' (Err JournalFull) → is_full h' 2 ≡ true
full-then es h h' n le full came =
    ap (λ (k : List Event). is_full k 2) (refused-same es h h' JournalFull came)
    ∙ full-two h n le full

module _ (told : Bool) (given : Given) where
  assigns-full : (p : ℕ) (a b : Stand) → Assigns told given p a b (Err JournalFull)
      → is_full b.history 2 ≡ true
  assigns-full p a b assigns =
      let one = assigned-after a.history b.history given p assigns.asked
      (assign_refusal given a.history p) (Err JournalFull) assigns.does in
      full-then (Assign p one.0 one.1 one.2 ∷ []) a.history b.history 1 (omega arith)
      (full-assign (has_ended a.history) (not (has_log given p)) (is_draining a.history)
      (is_held a.history p) (is_full a.history 1) (assign-full a.history b.history p given
      assigns.asked (assign_refusal given a.history p) assigns.does)) one.3

  all-full : (ps : List ℕ) (a b : Stand) → AssignsAll told given ps a b (Err JournalFull)
      → is_full b.history 2 ≡ true
  unfolding AssignsAll
  all-full [] a b all = let is : Err JournalFull ≡ Ok tt = all.1 in cc
  all-full (p ∷ ps) a b (Ok done, between, assigns, rest) = all-full ps between b rest
  all-full (p ∷ ps) a b (Err other, between, assigns, rest) =
      ap (λ (s : Stand). is_full s.history 2) rest.0
      ∙ assigns-full p a between
      (subst (λ (r : Result (Unit {0}) EngineFault). Assigns told given p a between r)
      (sym rest.1) assigns)

  crashes-full : (a between b : Stand) (first : Result (Unit {0}) EngineFault)
      → Does first (crash_after (crash_refusal a.history)) a.history between.history
      → Then first (AssignsAll told given (held_parts given a.history) between b
      (Err JournalFull)) between b (Err JournalFull) → is_full b.history 2 ≡ true
  crashes-full a between b (Ok done) does rest =
      all-full (held_parts given a.history) between b rest
  crashes-full a between b (Err other) does rest =
      let same : other ≡ JournalFull = same-fault other JournalFull (sym rest.1) in
      let full = subst (λ (f : EngineFault). Does (Err f) (crash_after (crash_refusal a.history))
      a.history between.history) same does in
      ap (λ (s : Stand). is_full s.history 2) rest.0
      ∙ full-then (Crash ∷ []) a.history between.history 1 (omega arith)
      (full-crash (has_ended a.history) (is_full a.history 1)
      (crash-full a.history between.history 0 (crash_refusal a.history) full))
      (comes-crash a.history between.history (crash_refusal a.history) (Err JournalFull) full)

  full-by : (a : Act) (before after : Stand) → Applies told given a before after (Err JournalFull)
      → is_full after.history 2 ≡ true
  full-by (act.Assign p) before after assigns = assigns-full p before after assigns
  full-by (act.Revoke p) before after revokes =
      let one = given_back-after before.history after.history given p revokes.asked
      (revoke_refusal given before.history p) (Err JournalFull) revokes.does in
      full-then (Revoke p one.0 ∷ one.1 ∷ []) before.history after.history 2 (omega arith)
      (full-held (has_ended before.history) (not (has_log given p))
      (not (is_held before.history p)) (is_full before.history 2)
      (revoke-full before.history after.history p given revokes.asked
      (revoke_refusal given before.history p) revokes.does)) one.3
  full-by (act.Lose p) before after loses =
      full-then (Lost p (epoch_of before.history p) ∷ []) before.history after.history 1
      (omega arith)
      (full-held (has_ended before.history) (not (has_log given p))
      (not (is_held before.history p)) (is_full before.history 1)
      (lose-full before.history after.history p (lose_refusal given before.history p)
      loses.does))
      (comes-lost before.history after.history p (lose_refusal given before.history p)
      (Err JournalFull) loses.does)
  full-by act.Crash before after crashes =
      crashes-full before crashes.between after crashes.first crashes.crashes.does
      crashes.assigns

-- a step is refused so only where two more events pass the limit
pub applied-full : (told : Bool) (given : Given) (a : Act) (before after : Stand)
    (r : Result (Unit {0}) EngineFault) → Applies told given a before after r
    → r ≡ Err JournalFull → is_full after.history 2 ≡ true
applied-full told given a before after r applies is =
    full-by told given a before after
    (subst (λ (x : Result (Unit {0}) EngineFault). Applies told given a before after x) is applies)

-- ---- what the link's client answered for the part at which a step stops

client-same : (f failed : ClientFault) → Client f ≡ engine_fault_of failed
    → (failed ≡ f) × (f ≡ client.NoMemory → ⊥)
client-same f client.NoMemory is = cc
client-same f client.LinkFailed is = let same : f ≡ client.LinkFailed = cc in (sym same, λ e. cc)
client-same f (client.Refused code) is =
    let same : f ≡ client.Refused code = cc in (sym same, λ e. cc)
client-same f (client.BadReply bad) is =
    let same : f ≡ client.BadReply bad = cc in (sym same, λ e. cc)
client-same f (client.OtherReply wanted got) is =
    let same : f ≡ client.OtherReply wanted got = cc in (sym same, λ e. cc)

not-bad : (bad : MapFault) (failed : ClientFault) → BadMap bad ≡ engine_fault_of failed → ⊥
not-bad bad client.NoMemory is = cc
not-bad bad failed is = cc

module _ (h h' : List Event) (p : ℕ) where
  with-client : (f : ClientFault) (stored : Commit) (y : Option MapFault)
      → Does (Err (Client f)) (assign_with h p stored y) h h' → ⊥
  with-client f stored None does = let is : Err (Client f) ≡ Ok tt = does.0 in cc
  with-client f stored (Some bad) does = let is = same-fault (Client f) (BadMap bad) does.0 in cc

  with-bad : (bad : MapFault) (stored : Commit) (y : Option MapFault)
      → Does (Err (BadMap bad)) (assign_with h p stored y) h h' → y ≡ Some bad
  with-bad bad stored None does = let is : Err (BadMap bad) ≡ Ok tt = does.0 in cc
  with-bad bad stored (Some other) does =
      let is : BadMap bad ≡ BadMap other = same-fault (BadMap bad) (BadMap other) does.0 in cc

  client-by : (given : Given) (f : ClientFault) (asked : Result Commit ClientFault)
      → Does (Err (Client f)) (assign_after given h p asked None) h h'
      → (asked ≡ Err f) × (f ≡ client.NoMemory → ⊥)
  client-by given f (Err failed) does =
      let same = client-same f failed
      (same-fault (Client f) (engine_fault_of failed) does.0) in
      (ap (λ (x : ClientFault). Err x) same.0, same.1)
  client-by given f (Ok stored) does = absurd (with-client f stored _ does)

  bad-by : (given : Given) (bad : MapFault) (asked : Result Commit ClientFault)
      → Does (Err (BadMap bad)) (assign_after given h p asked None) h h'
      → (stored : Commit) × (asked ≡ Ok stored)
      × (map_refusal given.setup.settings.bad_map stored ≡ Some bad)
  bad-by given bad (Err failed) does =
      absurd (not-bad bad failed (same-fault (BadMap bad) (engine_fault_of failed) does.0))
  bad-by given bad (Ok stored) does = (stored, refl, with-bad bad stored _ does)

module _ (told : Bool) (given : Given) (p : ℕ) (a b : Stand) where
  -- the link's client failed so, and not for want of memory
  pub stopped-client : (f : ClientFault)
      → (assigns : Assigns told given p a b (Err (Client f))) → assign_refusal given a.history p ≡ None
      → (assigns.asked ≡ Err f) × (f ≡ client.NoMemory → ⊥)
  stopped-client f assigns none = client-by a.history b.history p given f assigns.asked
      (subst (λ (x : Option EngineFault). Does (Err (Client f))
      (assign_after given a.history p assigns.asked x) a.history b.history) none assigns.does)

  -- it found a commit whose map does not read
  pub stopped-bad : (bad : MapFault) → (assigns : Assigns told given p a b (Err (BadMap bad)))
      → assign_refusal given a.history p ≡ None
      → (stored : Commit) × (assigns.asked ≡ Ok stored)
      × (map_refusal given.setup.settings.bad_map stored ≡ Some bad)
  stopped-bad bad assigns none = bad-by a.history b.history p given bad assigns.asked
      (subst (λ (x : Option EngineFault). Does (Err (BadMap bad))
      (assign_after given a.history p assigns.asked x) a.history b.history) none assigns.does)
