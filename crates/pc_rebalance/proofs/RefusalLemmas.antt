-- Why a step is refused.
use Rattle.std.proofs.Common.{◌≡◌, ◌∙◌, ℕ, ◌≤◌, Bool, true, false, inl, inr, List, [], ◌∷◌, Option, Some, None, Result, Ok, Err, refl, ap, sym, subst, arith}
use Rattle.std.specs.Prelude.{if◌then◌else◌, not}
use Rattle.pc_model.specs.declared.commit.Commit.{Commit}
use Rattle.pc_model.specs.declared.event.Event.{Event}
use Rattle.pc_model.specs.declared.map_fault.MapFault.{MapFault}
use Rattle.pc_model.specs.declared.step.Act.{Act}
use Rattle.pc_model.specs.declared.step.Act.TheVariants as act
use Rattle.pc_model.specs.Given.{Given, has_log}
use Rattle.pc_model.specs.Jobs.{has_ended, is_draining}
use Rattle.pc_model.specs.Epochs.{is_held}
use Rattle.pc_model.specs.Lawful.{held_parts}
use Rattle.pc_offset_client.specs.declared.fault.ClientFault.{ClientFault}
use Rattle.pc_offset_client.specs.declared.fault.ClientFault.TheVariants as client
use Rattle.pc_offset_client.specs.declared.fault.ClientFault.TheVariants.{LinkFailed}
use Rattle.pc_world.specs.World.{HasRisen}
use Rattle.pc_engine.specs.declared.fault.EngineFault.{EngineFault}
use Rattle.pc_engine.specs.declared.fault.EngineFault.TheVariants.{AlreadyHeld, BadMap, Client, Closed, Draining, JournalFull, NoMemory, NotHeld, UnknownPart}
use Rattle.pc_engine.specs.Effect.{Does, assign_after, assign_refusal, assign_step, assign_with, crash_after, crash_refusal, crash_step, is_full, lose_after, lose_refusal, lose_step, revoke_after, revoke_refusal}
use Rattle.pc_engine.specs.Fault.{engine_fault_of}
use Rattle.pc_engine.specs.Stand.{DoesAlone, Stand}
use Rattle.pc_rebalance.specs.Apply.{Applies, Assigns, AssignsAll, Then, give_back_step, outcome_alone}

-- ---- no refusal of a call's own is the client's

assign_refused : (a b c d e : Bool) (failed : ClientFault) → (if a then Some Closed
    else if b then Some UnknownPart else if c then Some Draining else if d then Some AlreadyHeld
    else if e then Some JournalFull else None) ≡ Some (Client failed) → ⊥
assign_refused true b c d e failed is = cc
assign_refused false true c d e failed is = cc
assign_refused false false true d e failed is = cc
assign_refused false false false true e failed is = cc
assign_refused false false false false true failed is = cc
assign_refused false false false false false failed is = cc

held_refused : (a b c d : Bool) (failed : ClientFault) → (if a then Some Closed
    else if b then Some UnknownPart else if c then Some NotHeld
    else if d then Some JournalFull else None) ≡ Some (Client failed) → ⊥
held_refused true b c d failed is = cc
held_refused false true c d failed is = cc
held_refused false false true d failed is = cc
held_refused false false false true failed is = cc
held_refused false false false false failed is = cc

crash_refused : (a b : Bool) (failed : ClientFault)
    → (if a then Some Closed else if b then Some JournalFull else None) ≡ Some (Client failed) → ⊥
crash_refused true b failed is = cc
crash_refused false true failed is = cc
crash_refused false false failed is = cc

-- ---- the link failed only where its count rose

-- a call failed because the link did
abbrev pub IsLinkFailed : Result (Unit {0}) EngineFault → Type 0
IsLinkFailed r = r ≡ Err (Client LinkFailed)

-- a count that rose after another moment
risen-after : (a b c : ℕ) → a ≤ b → HasRisen b c → HasRisen a c
risen-after a b c le (inl less) = inl (omega arith)
risen-after a b c le (inr most) = inr most

-- a call that was refused so
pub same-fault : (e f : EngineFault) → ◌≡◌ {A = Result (Unit {0}) EngineFault} (Err e) (Err f) → e ≡ f
same-fault e f is = cc

-- and has this refusal of its own
own-fault : {P : Type 0} (fault : EngineFault)
    → ((failed : ClientFault) → Some fault ≡ Some (Client failed) → ⊥)
    → ◌≡◌ {A = Result (Unit {0}) EngineFault} (Err (Client LinkFailed)) (Err fault) → P
own-fault fault other is = absurd (other LinkFailed
    (ap (λ (e : EngineFault). Some e) (sym (same-fault (Client LinkFailed) fault is))))

link-failed : (failed : ClientFault) → engine_fault_of failed ≡ Client LinkFailed
    → failed ≡ LinkFailed
link-failed client.NoMemory is = cc
link-failed LinkFailed is = refl
link-failed failed is = cc

module _ (h h' : List Event) where
  assigned-by : (p : ℕ) (stored : Commit) (y : Option MapFault)
      → Does (Err (Client LinkFailed)) (assign_with h p stored y) h h' → ⊥
  assigned-by p stored None does = let is : Err (Client LinkFailed) ≡ Ok tt = does.0 in cc
  assigned-by p stored (Some fault) does =
      let is = same-fault (Client LinkFailed) (BadMap fault) does.0 in cc

  -- what the link's client answered to an assignment that failed so
  assign-asked : (given : Given) (p : ℕ) (asked : Result Commit ClientFault)
      (x : Option EngineFault) → ((failed : ClientFault) → x ≡ Some (Client failed) → ⊥)
      → Does (Err (Client LinkFailed)) (assign_after given h p asked x) h h'
      → asked ≡ Err LinkFailed
  assign-asked given p asked (Some fault) other does = own-fault fault other does.0
  assign-asked given p (Err failed) None other does =
      ap (λ (f : ClientFault). Err f) (link-failed failed
      (sym (same-fault (Client LinkFailed) (engine_fault_of failed) does.0)))
  assign-asked given p (Ok stored) None other does = absurd (assigned-by p stored _ does)

  -- a revocation never fails so
  revoke-never : (given : Given) (p : ℕ) (asked : Result (Unit {0}) ClientFault)
      (x : Option EngineFault) → ((failed : ClientFault) → x ≡ Some (Client failed) → ⊥)
      → Does (Err (Client LinkFailed)) (record {
        answer = outcome_alone (revoke_after given h p asked x).answer;
        events = (revoke_after given h p asked x).events;
      }) h h' → ⊥
  revoke-never given p asked (Some fault) other does = own-fault fault other does.0
  revoke-never given p (Ok done) None other does =
      let is : Err (Client LinkFailed) ≡ Ok tt = does.0 in cc
  revoke-never given p (Err client.NoMemory) None other does =
      let is = same-fault (Client LinkFailed) NoMemory does.0 in cc
  revoke-never given p (Err failed) None other does =
      let is : Err (Client LinkFailed) ≡ Ok tt = does.0 in cc

  -- nor does a loss or a crash
  lose-never : (p : ℕ) (x : Option EngineFault)
      → ((failed : ClientFault) → x ≡ Some (Client failed) → ⊥)
      → Does (Err (Client LinkFailed)) (lose_after h p x) h h' → ⊥
  lose-never p (Some fault) other does = own-fault fault other does.0
  lose-never p None other does = let is : Err (Client LinkFailed) ≡ Ok tt = does.0 in cc

  crash-never : (x : Option EngineFault) → ((failed : ClientFault) → x ≡ Some (Client failed) → ⊥)
      → Does (Err (Client LinkFailed)) (crash_after x) h h' → ⊥
  crash-never (Some fault) other does = own-fault fault other does.0
  crash-never None other does = let is : Err (Client LinkFailed) ≡ Ok tt = does.0 in cc

-- an assignment
assigns-cause : (told : Bool) (given : Given) (p : ℕ) (a b : Stand)
    (r : Result (Unit {0}) EngineFault) → Assigns told given p a b r → IsLinkFailed r
    → HasRisen a.faults b.faults
assigns-cause told given p a b r assigns is = assigns.fetched.cause
    (assign-asked a.history b.history given p assigns.asked (assign_refusal given a.history p)
    (λ failed. assign_refused (has_ended a.history) (not (has_log given p))
    (is_draining a.history) (is_held a.history p) (is_full a.history 1) failed)
    (subst (λ (x : Result (Unit {0}) EngineFault). Does x
    (assign_step given a.history p assigns.asked) a.history b.history) is assigns.does))

-- and one of several
all-cause : (told : Bool) (given : Given) (ps : List ℕ) (a b : Stand)
    (r : Result (Unit {0}) EngineFault) → AssignsAll told given ps a b r → IsLinkFailed r
    → HasRisen a.faults b.faults
unfolding AssignsAll
all-cause told given [] a b r all is =
    let no : Ok tt ≡ Err (Client LinkFailed) = sym all.1 ∙ is in cc
all-cause told given (p ∷ ps) a b r (Ok done, between, assigns, rest) is =
    risen-after a.faults between.faults b.faults assigns.later
    (all-cause told given ps between b r rest is)
all-cause told given (p ∷ ps) a b r (Err fault, between, assigns, rest) is =
    subst (λ (s : Stand). HasRisen a.faults s.faults) (sym rest.0)
    (assigns-cause told given p a between (Err fault) assigns (sym rest.1 ∙ is))

crash-cause : (told : Bool) (given : Given) (a between b : Stand)
    (first r : Result (Unit {0}) EngineFault) → DoesAlone (crash_step a.history) a between first
    → Then first (AssignsAll told given (held_parts given a.history) between b r) between b r
    → IsLinkFailed r → HasRisen a.faults b.faults
crash-cause told given a between b (Ok done) r crashes rest is =
    subst (λ (n : ℕ). HasRisen n b.faults) crashes.faults
    (all-cause told given (held_parts given a.history) between b r rest is)
crash-cause told given a between b (Err fault) r crashes rest is =
    absurd (crash-never a.history between.history (crash_refusal a.history)
    (λ failed. crash_refused (has_ended a.history) (is_full a.history 1) failed)
    (subst (λ (x : Result (Unit {0}) EngineFault). Does x (crash_step a.history) a.history
    between.history) (sym rest.1 ∙ is) crashes.does))

-- a step
pub applied-cause : (told : Bool) (given : Given) (a : Act) (before after : Stand)
    (r : Result (Unit {0}) EngineFault) → Applies told given a before after r → IsLinkFailed r
    → HasRisen before.faults after.faults
applied-cause told given (act.Assign p) before after r assigns is =
    assigns-cause told given p before after r assigns is
applied-cause told given (act.Revoke p) before after r revokes is =
    absurd (revoke-never before.history after.history given p revokes.asked
    (revoke_refusal given before.history p)
    (λ failed. held_refused (has_ended before.history) (not (has_log given p))
    (not (is_held before.history p)) (is_full before.history 2) failed)
    (subst (λ (x : Result (Unit {0}) EngineFault). Does x
    (give_back_step given before.history p revokes.asked) before.history after.history) is
    revokes.does))
applied-cause told given (act.Lose p) before after r loses is =
    absurd (lose-never before.history after.history p (lose_refusal given before.history p)
    (λ failed. held_refused (has_ended before.history) (not (has_log given p))
    (not (is_held before.history p)) (is_full before.history 1) failed)
    (subst (λ (x : Result (Unit {0}) EngineFault). Does x (lose_step given before.history p)
    before.history after.history) is loses.does))
applied-cause told given act.Crash before after r crashes is =
    crash-cause told given before crashes.between after crashes.first r crashes.crashes
    crashes.assigns is
