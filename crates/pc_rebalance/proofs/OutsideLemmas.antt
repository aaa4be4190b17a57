-- What refuses an act that may be done.
use Rattle.std.proofs.Common.{◌≡◌, ℕ, zero, suc, ◌+◌, ◌≤◌, Bool, true, false, ◌⊎◌, inl, inr, List, [], ◌∷◌, length, Option, Some, None, Result, Ok, Err, refl, sym, subst, arith}
use Rattle.std.specs.Prelude.{IfErr, filter, if◌then◌else◌, ◌==◌}
use Rattle.std.specs.List.{list_all, range_with_len}
use Rattle.std.proofs.lemmas.Bool.{and_parts, cases_Bool, eqb-true}
use Rattle.pc_model.specs.declared.commit.Commit.{Commit}
use Rattle.pc_model.specs.declared.event.Event.{Event}
use Rattle.pc_model.specs.declared.event.Event.TheVariants.{Assign, Crash}
use Rattle.pc_model.specs.declared.map_fault.MapFault.{MapFault}
use Rattle.pc_model.specs.declared.step.Act.{Act}
use Rattle.pc_model.specs.declared.step.Act.TheVariants as act
use Rattle.pc_model.specs.Given.{Given, has_log, parts_of}
use Rattle.pc_model.specs.Jobs.{has_ended, is_draining}
use Rattle.pc_model.specs.Epochs.{is_held}
use Rattle.pc_model.specs.Lawful.{held_parts}
use Rattle.pc_offset_client.specs.declared.fault.ClientFault.{ClientFault}
use Rattle.pc_offset_client.specs.declared.fault.ClientFault.TheVariants as client
use Rattle.pc_engine.specs.declared.fault.EngineFault.{EngineFault}
use Rattle.pc_engine.specs.declared.fault.EngineFault.TheVariants.{JournalFull, NoMemory}
use Rattle.pc_engine.specs.Effect.{Step, Does, assign_after, assign_refusal, assign_step, assign_with, crash_after, crash_refusal, crash_step, held_refusal, is_full, lose_after, lose_step, revoke_after}
use Rattle.pc_engine.specs.Fault.{engine_fault_of}
use Rattle.pc_engine.specs.Stand.{DoesAlone, Stand}
use Rattle.pc_rebalance.specs.Apply.{Applies, Assigns, AssignsAll, Then, give_back_step, outcome_alone}
use Rattle.pc_rebalance.specs.Refusal.{IsFromOutside, MayAssign, MayCrash, MayDo, MayLose}
use Rattle.pc_rebalance.proofs.BlockLemmas.{Comes, assigned-after, comes-crash}
use Rattle.pc_rebalance.proofs.BlockLemmas.Comes.{Refused, Whole}

-- ---- a call's own refusal

-- none, or that the journal is full
abbrev IsRoomAlone : Option EngineFault → Type 0
IsRoomAlone x = (x ≡ None) ⊎ (x ≡ Some JournalFull)

room : (full : Bool) → IsRoomAlone (if full then Some JournalFull else None)
room true = inr refl
room false = inl refl

module _ (given : Given) (h : List Event) (p : ℕ) where
  assign-room : MayAssign given h p → IsRoomAlone (assign_refusal given h p)
  assign-room may = rw (may.goes_on, may.known, may.flows, may.free) (room (is_full h 1))

  held-room : (more : ℕ) → MayLose given h p → IsRoomAlone (held_refusal given h p more)
  held-room more may = rw (may.goes_on, may.known, may.held) (room (is_full h more))

crash-room : (h : List Event) → has_ended h ≡ false → IsRoomAlone (crash_refusal h)
crash-room h goes_on = rw goes_on (room (is_full h 1))

-- ---- the answer of a call

abbrev FromOutside : Result (Unit {0}) EngineFault → Type 0
FromOutside r = IfErr r IsFromOutside

full-outside : (fault : EngineFault) → IsRoomAlone (Some fault) → IsFromOutside fault
full-outside fault (inl none) = cc
full-outside fault (inr full) =
    let is : JournalFull ≡ fault = cc in subst IsFromOutside is tt

client-outside : (failed : ClientFault) → IsFromOutside (engine_fault_of failed)
client-outside client.NoMemory = tt
client-outside failed = tt

-- a call that did its step
does-outside : (r : Result (Unit {0}) EngineFault) (step : Step (Unit {0})) (h h' : List Event)
    → FromOutside step.answer → Does r step h h' → FromOutside r
does-outside (Ok done) step h h' out does = tt
does-outside (Err NoMemory) step h h' out does = tt
does-outside (Err fault) step h h' out does = subst FromOutside (sym does.0) out

module _ (h : List Event) (p : ℕ) where
  with-outside : (stored : Commit) (y : Option MapFault)
      → FromOutside (assign_with h p stored y).answer
  with-outside stored None = tt
  with-outside stored (Some fault) = tt

  assign-outside : (given : Given) (asked : Result Commit ClientFault) (x : Option EngineFault)
      → IsRoomAlone x → FromOutside (assign_after given h p asked x).answer
  assign-outside given asked (Some fault) is = full-outside fault is
  assign-outside given (Err failed) None is = client-outside failed
  assign-outside given (Ok stored) None is = with-outside stored _

  revoke-outside : (given : Given) (asked : Result (Unit {0}) ClientFault)
      (x : Option EngineFault) → IsRoomAlone x
      → FromOutside (outcome_alone (revoke_after given h p asked x).answer)
  revoke-outside given asked (Some fault) is = full-outside fault is
  revoke-outside given (Ok done) None is = tt
  revoke-outside given (Err client.NoMemory) None is = tt
  revoke-outside given (Err failed) None is = tt

  lose-outside : (x : Option EngineFault) → IsRoomAlone x → FromOutside (lose_after h p x).answer
  lose-outside (Some fault) is = full-outside fault is
  lose-outside None is = tt

crash-outside : (x : Option EngineFault) → IsRoomAlone x → FromOutside (crash_after x).answer
crash-outside (Some fault) is = full-outside fault is
crash-outside None is = tt

-- ---- parts in rising order

-- the parts rise, from this number on
abbrev RisesFrom : ℕ → List ℕ → Type 0
RisesFrom n [] = Unit {0}
RisesFrom n (p ∷ ps) = (n ≤ p) × RisesFrom (suc p) ps

rises-lower : (n m : ℕ) (ps : List ℕ) → n ≤ m → RisesFrom m ps → RisesFrom n ps
rises-lower n m [] le rises = tt
rises-lower n m (p ∷ ps) le rises =
    let first : m ≤ p = rises.0 in (omega arith, rises.1)

rises-filter : (f : ℕ → Bool) (n : ℕ) (ps : List ℕ) → RisesFrom n ps → RisesFrom n (filter f ps)
rises-filter f n [] rises = tt
rises-filter f n (p ∷ ps) rises =
    let first : n ≤ p = rises.0 in
    let rest = rises-filter f (suc p) ps rises.1 in
    elim (cases_Bool (f p)) [
      | inl kept ↦ rw kept (first, rest)
      | inr left ↦ rw left (rises-lower n (suc p) (filter f ps) (omega arith) rest)
    ]

rises-range : (a n : ℕ) → RisesFrom a (range_with_len a n)
rises-range a zero = tt
rises-range a (suc n) = (
  omega arith,
  rises-lower (suc a) (a + 1) (range_with_len (a + 1) n)
      (omega arith) (rises-range (a + 1) n),
)

-- ---- the parts that a crash took

-- where these parts may be assigned one after the other: the history goes on, nothing drains, each
-- has a log, and from the first on none is held
record AreFree (given : Given) (n : ℕ) (ps : List ℕ) (h : List Event) : Type 0 where
  rises : RisesFrom n ps
  known : list_all (has_log given) ps ≡ true
  goes_on : has_ended h ≡ false
  flows : is_draining h ≡ false
  free : (q : ℕ) → n ≤ q → is_held h q ≡ false

free-first : (given : Given) (n p : ℕ) (ps : List ℕ) (h : List Event)
    → AreFree given n (p ∷ ps) h → MayAssign given h p
free-first given n p ps h are = record {
  goes_on = are.goes_on;
  known = (and_parts (has_log given p) (list_all (has_log given) ps) are.known).0;
  flows = are.flows;
  free = are.free p are.rises.0;
}

other-held : (h : List Event) (p q epoch position : ℕ) (text : List ℕ) → suc p ≤ q
    → is_held h q ≡ false → is_held (Assign p epoch position text ∷ h) q ≡ false
other-held h p q epoch position text le free = elim (cases_Bool (p == q)) [
  | inl same ↦ let is : p ≡ q = eqb-true p q same in absurd (omega arith)
  | inr apart ↦ rw apart free
]

free-next : (given : Given) (n p : ℕ) (ps : List ℕ) (h : List Event) (epoch position : ℕ)
    (text : List ℕ) → AreFree given n (p ∷ ps) h
    → AreFree given (suc p) ps (Assign p epoch position text ∷ h)
free-next given n p ps h epoch position text are = record {
  rises = are.rises.1;
  known = (and_parts (has_log given p) (list_all (has_log given) ps) are.known).1;
  goes_on = are.goes_on;
  flows = are.flows;
  free = λ q le.
      let first : n ≤ p = are.rises.0 in
      other-held h p q epoch position text le (are.free q (omega arith));
}

module _ (told : Bool) (given : Given) where
  assigns-outside : (p : ℕ) (a b : Stand) (r : Result (Unit {0}) EngineFault)
      → MayAssign given a.history p → Assigns told given p a b r → FromOutside r
  assigns-outside p a b r may assigns = does-outside r (assign_step given a.history p assigns.asked)
      a.history b.history (assign-outside a.history p given assigns.asked
      (assign_refusal given a.history p) (assign-room given a.history p may)) assigns.does

  all-outside : (n : ℕ) (ps : List ℕ) (a b : Stand) (r : Result (Unit {0}) EngineFault)
      → AreFree given n ps a.history → AssignsAll told given ps a b r → FromOutside r
  unfolding AssignsAll
  all-outside n [] a b r are all = subst FromOutside (sym all.1) tt
  all-outside n (p ∷ ps) a b r are (Err fault, between, assigns, rest) =
      subst FromOutside (sym rest.1)
      (assigns-outside p a between (Err fault) (free-first given n p ps a.history are) assigns)
  all-outside n (p ∷ ps) a b r are (Ok done, between, assigns, rest) =
      let one = assigned-after a.history between.history given p assigns.asked
      (assign_refusal given a.history p) (Ok done) assigns.does in
      all-outside (suc p) ps between b r
      (more n p ps a between done one.0 one.1 one.2 one.3 are) rest
    where
      more : (n p : ℕ) (ps : List ℕ) (a between : Stand) (done : Unit {0}) (epoch position : ℕ)
          (text : List ℕ)
          → Comes (Assign p epoch position text ∷ []) a.history between.history (Ok done)
          → AreFree given n (p ∷ ps) a.history → AreFree given (suc p) ps between.history
      more n p ps a between done epoch position text (Refused fault is same) are = cc
      more n p ps a between done epoch position text (Whole is same) are =
          subst (λ (k : List Event). AreFree given (suc p) ps k) (sym same)
          (free-next given n p ps a.history epoch position text are)

  crash-free : (h h' : List Event) → MayCrash given h → h' ≡ Crash ∷ h
      → AreFree given 0 (held_parts given h) h'
  crash-free h h' may same = subst (λ (k : List Event). AreFree given 0 (held_parts given h) k)
      (sym same) (record {
        rises = rises-filter (is_held h) 0 (parts_of given) (rises-range 0 (length given.logs));
        known = may.known;
        goes_on = may.goes_on;
        flows = refl;
        free = λ q le. refl;
      })

  crash-by : (a between b : Stand) (first r : Result (Unit {0}) EngineFault)
      → MayCrash given a.history → DoesAlone (crash_step a.history) a between first
      → Comes (Crash ∷ []) a.history between.history first
      → Then first (AssignsAll told given (held_parts given a.history) between b r) between b r
      → FromOutside r
  crash-by a between b (Ok done) r may crashes (Refused fault is same) rest = cc
  crash-by a between b (Ok done) r may crashes (Whole is same) rest =
      all-outside 0 (held_parts given a.history) between b r
      (crash-free a.history between.history may same) rest
  crash-by a between b (Err fault) r may crashes came rest =
      subst FromOutside (sym rest.1)
      (does-outside (Err fault) (crash_step a.history) a.history between.history
      (crash-outside (crash_refusal a.history) (crash-room a.history may.goes_on)) crashes.does)

-- ---- a step

pub applied-outside : (told : Bool) (given : Given) (a : Act) (before after : Stand)
    (r : Result (Unit {0}) EngineFault) → Applies told given a before after r
    → MayDo given before.history a → IfErr r IsFromOutside
applied-outside told given (act.Assign p) before after r assigns may =
    assigns-outside told given p before after r may assigns
applied-outside told given (act.Revoke p) before after r revokes may =
    does-outside r (give_back_step given before.history p revokes.asked) before.history
    after.history (revoke-outside before.history p given revokes.asked
    (held_refusal given before.history p 2) (held-room given before.history p 2 may)) revokes.does
applied-outside told given (act.Lose p) before after r loses may =
    does-outside r (lose_step given before.history p) before.history after.history
    (lose-outside before.history p (held_refusal given before.history p 1)
    (held-room given before.history p 1 may)) loses.does
applied-outside told given act.Crash before after r crashes may =
    crash-by told given before crashes.between after crashes.first r may crashes.crashes
    (comes-crash before.history crashes.between.history (crash_refusal before.history)
    crashes.first crashes.crashes.does) crashes.assigns
