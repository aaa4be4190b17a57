-- Which parts are held in a run by the steps of a script, and what may be done next.
use Rattle.std.proofs.Common.{◌≡◌, ◌∙◌, ℕ, zero, suc, ◌+◌, ◌≤◌, ◌<◌, Bool, true, false, ◌||◌, ◌&&◌, ◌==◌, inl, inr, ◌⊎◌, List, [], ◌∷◌, ◌++◌, take, length, Option, Some, None, Result, Ok, Err, refl, ap, sym, subst, add-one, arith}
use Rattle.std.specs.Prelude.{drop, if◌then◌else◌, nat_le, nat_lt, slice_get}
use Rattle.std.specs.List.{list_any}
use Rattle.std.specs.Option.{option_map_or}
use Rattle.std.proofs.lemmas.Bool.{and_parts, cases_Bool, eq-eqb, eqb-true, leb-true, ltb-true}
use Rattle.std.proofs.lemmas.List.{append-nil, append_assoc}
use Rattle.std.proofs.lemmas.List.Sums.{fold-append}
use Rattle.std.proofs.lemmas.Option.{slice_get_past}
use Rattle.pc_model.specs.declared.event.Event.{Event}
use Rattle.pc_model.specs.declared.event.Event.TheVariants.{Assign, Commit as Committed, CommitFailed, Revoke, Lost, Crash, Drain}
use Rattle.pc_model.specs.declared.step.Act.{Act}
use Rattle.pc_model.specs.declared.step.Act.TheVariants as act
use Rattle.pc_model.specs.declared.step.Step.{Step}
use Rattle.pc_model.specs.Given.{Given, has_log, parts_of}
use Rattle.pc_model.specs.Jobs.{has_ended, is_draining}
use Rattle.pc_model.specs.Epochs.{is_held}
use Rattle.pc_model.specs.Lawful.{IsLegal, ends_in_commit, held_parts, is_nil}
use Rattle.pc_model.specs.Pace.{goes_with, is_paced, is_paced_at}
use Rattle.pc_model.specs.Run.{is_at_rest}
use Rattle.pc_model.specs.Steps.{Place, after_assign, follows, follows_at, is_next_part, is_step_due, may_begin, next_step, place_of, same_act}
use Rattle.pc_laws.specs.Lists.{In}
use Rattle.pc_laws.proofs.Lists.{In-filter, In-filtered, In-list_any, list_all-each, list_any-In, or-cases, true-not-false}
use Rattle.pc_laws.proofs.DoneLaw.{In-range}
use Rattle.pc_laws.proofs.HeldLaw.{held-has_log, log-below}
use Rattle.pc_run_laws.specs.Run.{IsRun}
use Rattle.pc_script.specs.declared.fault.ScriptKind.{ScriptKind}
use Rattle.pc_script.specs.declared.fault.ScriptKind.TheVariants.{UnknownPart}
use Rattle.pc_script.specs.Steps.{AreAllowed, allowed_of, held_after, if_free, if_held, is_held as held_by}
use Rattle.pc_rebalance.specs.Refusal.{MayDo, MayLose}

-- ---- the steps so far, and one more

take-found : (steps : List Step) (n : ℕ) (step : Step) → slice_get steps n ≡ Some step
    → take (suc n) steps ≡ take n steps ++ step ∷ []
take-found [] n step found = cc
take-found (s ∷ steps) zero step found =
    let same : s ≡ step = cc in ap (λ (x : Step). x ∷ []) same
take-found (s ∷ steps) (suc n) step found =
    ap (λ (l : List Step). s ∷ l) (take-found steps n step found)

one-more : (steps : List Step) (n : ℕ) (step : Step) (p : ℕ) → slice_get steps n ≡ Some step
    → held_by (take (n + 1) steps) p ≡ held_after p (held_by (take n steps) p) step.act
one-more steps n step p found =
    ap (λ (l : List Step). held_by l p)
    (ap (λ (m : ℕ). take m steps) (add-one n) ∙ take-found steps n step found)
    ∙ fold-append (λ (held : Bool) (s : Step). held_after p held s.act) false (take n steps)
    (step ∷ [])

-- ---- the block of an act

act-same : (a b : Act) → same_act a b ≡ true → a ≡ b
act-same (act.Assign p) (act.Assign q) e = ap act.Assign (eqb-true p q e)
act-same (act.Revoke p) (act.Revoke q) e = ap act.Revoke (eqb-true p q e)
act-same (act.Lose p) (act.Lose q) e = ap act.Lose (eqb-true p q e)
act-same act.Crash act.Crash e = refl
act-same a b e = cc

nil-of : {X : Type 0} (xs : List X) → is_nil xs ≡ true → xs ≡ []
nil-of [] e = refl
nil-of (x ∷ xs) e = cc

-- at this place the next step has this act, and no block is left unfinished
record IsNext (steps : List Step) (a : Act) (place : Place) : Type 0 where
  step : Step
  found : slice_get steps place.begun ≡ Some step
  is_act : step.act ≡ a
  whole : place.left ≡ []

next-found : (given : Given) (steps : List Step) (h : List Event) (a : Act) (found : Option Step)
    → slice_get steps (place_of given h).begun ≡ found → (place_of given h).left ≡ []
    → option_map_or (λ s. same_act s.act a && is_step_due given s h) found false ≡ true
    → IsNext steps a (place_of given h)
next-found given steps h a None at whole test = cc
next-found given steps h a (Some step) at whole test = record {
  step = step;
  found = at;
  is_act = act-same step.act a (and_parts (same_act step.act a) (is_step_due given step h) test).0;
  whole = whole;
}

next-of : (given : Given) (steps : List Step) (h : List Event) (a : Act)
    → may_begin given steps h a ≡ true → IsNext steps a (place_of given h)
next-of given steps h a may =
    let parts = and_parts (is_nil (place_of given h).left)
    (option_map_or (λ s. same_act s.act a && is_step_due given s h) (next_step given steps h) false)
    may in
    next-found given steps h a (next_step given steps h) refl
    (nil-of (place_of given h).left parts.0) parts.1

-- ---- held, or to be assigned again

or-none : (held : Bool) → (held || false) ≡ held
or-none true = refl
or-none false = refl

-- whether the part is one of these
abbrev is_among : List ℕ → ℕ → Bool
is_among left p = list_any (λ q. q == p) left

-- after the act's block
block-held : (steps : List Step) (a : Act) (place : Place) (held : Bool) (p : ℕ)
    → IsNext steps a place
    → (held || is_among place.left p) ≡ held_by (take place.begun steps) p
    → held_after p held a ≡ held_by (take (place.begun + 1) steps) p
block-held steps a place held p next so =
    let before : held ≡ held_by (take place.begun steps) p = sym (or-none held)
    ∙ sym (ap (λ (l : List ℕ). held || is_among l p) next.whole) ∙ so in
    ap (λ (x : Act). held_after p held x) (sym next.is_act)
    ∙ ap (λ (b : Bool). held_after p b next.step.act) before
    ∙ sym (one-more steps place.begun next.step p next.found)

-- a block that leaves no part to be assigned again
whole-held : (steps : List Step) (a : Act) (place : Place) (held now : Bool) (p : ℕ)
    → IsNext steps a place
    → (held || is_among place.left p) ≡ held_by (take place.begun steps) p
    → now ≡ held_after p held a
    → (now || is_among place.left p) ≡ held_by (take (place.begun + 1) steps) p
whole-held steps a place held now p next so is =
    ap (λ (l : List ℕ). now || is_among l p) next.whole ∙ or-none now ∙ is
    ∙ block-held steps a place held p next so

again-held : (same held among so : Bool) → (held || (same || among)) ≡ so
    → ((if same then true else held) || among) ≡ so
again-held true true among so e = e
again-held true false among so e = e
again-held false held among so e = e

-- an assignment: of the next part that is left, or of a step
assign-held : (steps : List Step) (q : ℕ) (place : Place) (left : List ℕ) (held : ℕ → Bool)
    → place.left ≡ left
    → ((p : ℕ) → (held p || is_among place.left p) ≡ held_by (take place.begun steps) p)
    → (is_next_part left q ≡ true) ⊎ IsNext steps (act.Assign q) place
    → (p : ℕ) → ((if q == p then true else held p)
    || is_among (after_assign place.begun left).left p)
    ≡ held_by (take (after_assign place.begun left).begun steps) p
assign-held steps q place [] held is so (inl next) p = cc
assign-held steps q place [] held is so (inr next) p =
    or-none (if q == p then true else held p)
    ∙ block-held steps (act.Assign q) place (held p) p next (so p)
assign-held steps q place (r ∷ left) held is so (inl next) p =
    let same : r ≡ q = eqb-true r q next in
    again-held (q == p) (held p) (is_among left p) (held_by (take place.begun steps) p)
    (ap (λ (x : ℕ). held p || ((x == p) || is_among left p)) (sym same)
    ∙ ap (λ (l : List ℕ). held p || is_among l p) (sym is) ∙ so p)
assign-held steps q place (r ∷ left) held is so (inr next) p =
    let none : r ∷ left ≡ [] = sym is ∙ next.whole in cc

-- ---- the parts that a crash takes

held-In : (given : Given) (h : List Event) (p : ℕ) → IsLegal given h → is_held h p ≡ true
    → In p (held_parts given h)
held-In given h p legal held =
    let below : p < length given.logs = log-below given.logs p (held-has_log given h p legal held) in
    In-filter (is_held h) p (parts_of given)
    (In-range 0 (length given.logs) p p (omega arith) below) held

among-held : (given : Given) (h : List Event) (p : ℕ) → IsLegal given h
    → is_among (held_parts given h) p ≡ is_held h p
among-held given h p legal = elim (cases_Bool (is_held h p)) [
  | inl held ↦ list_any-In (λ (q : ℕ). q == p) p (held_parts given h) (held-In given h p legal held)
      (eq-eqb p p refl) ∙ sym held
  | inr free ↦ elim (cases_Bool (is_among (held_parts given h) p)) [
    | inr none ↦ none ∙ sym free
    | inl some ↦
        let one = In-list_any (λ (q : ℕ). q == p) (held_parts given h) some in
        let held = (In-filtered (is_held h) one.0 (parts_of given) one.1).1 in
        true-not-false (is_held h p)
        (ap (λ (q : ℕ). is_held h q) (sym (eqb-true one.0 p one.2)) ∙ held) free
  ]
]

-- ---- a run

module _ (given : Given) (steps : List Step) (e : Event) (h : List Event) where
  moves-now : follows given steps (e ∷ h) ≡ true → follows_at given steps e h ≡ true
  moves-now moves = (and_parts (follows_at given steps e h) (follows given steps h) moves).0

  moves-before : follows given steps (e ∷ h) ≡ true → follows given steps h ≡ true
  moves-before moves = (and_parts (follows_at given steps e h) (follows given steps h) moves).1

  paced-now : is_paced given steps (e ∷ h) ≡ true → is_paced_at given steps e h ≡ true
  paced-now paced = (and_parts (is_paced_at given steps e h)
      (goes_with given h e && is_paced given steps h) paced).0

  paced-before : is_paced given steps (e ∷ h) ≡ true → is_paced given steps h ≡ true
  paced-before paced = (and_parts (goes_with given h e) (is_paced given steps h)
      (and_parts (is_paced_at given steps e h) (goes_with given h e && is_paced given steps h)
      paced).1).1

-- a commit leaves the place
ends-in : (given : Given) (h : List Event) (p : ℕ) → ends_in_commit h p ≡ true
    → place_of given (drop 1 h) ≡ place_of given h
ends-in given [] p e = cc
ends-in given (Committed q position text size ∷ h) p e = refl
ends-in given (CommitFailed q position text size ∷ h) p e = refl
ends-in given (v ∷ h) p e = cc

-- the parts that are held, or left to be assigned again, are those that the steps say
held-so : (given : Given) (steps : List Step) (h : List Event) → IsLegal given h
    → follows given steps h ≡ true → (p : ℕ)
    → (is_held h p || is_among (place_of given h).left p)
    ≡ held_by (take (place_of given h).begun steps) p
held-so given steps [] legal moves p = refl
held-so given steps (Assign q epoch position text ∷ h) legal moves p =
    assign-held steps q (place_of given h) (place_of given h).left (is_held h) refl
    (held-so given steps h legal.2 (moves-before given steps (Assign q epoch position text) h moves))
    (elim (or-cases (is_next_part (place_of given h).left q)
    (may_begin given steps h (act.Assign q))
    (moves-now given steps (Assign q epoch position text) h moves)) [
      | inl again ↦ inl again
      | inr may ↦ inr (next-of given steps h (act.Assign q) may)
    ]) p
held-so given steps (Revoke q epoch ∷ h) legal moves p =
    whole-held steps (act.Revoke q) (place_of given h) (is_held h p)
    (if q == p then false else is_held h p) p
    (subst (λ (place : Place). IsNext steps (act.Revoke q) place)
    (ends-in given h q legal.0.after_commit)
    (next-of given steps (drop 1 h) (act.Revoke q)
    (moves-now given steps (Revoke q epoch) h moves)))
    (held-so given steps h legal.2 (moves-before given steps (Revoke q epoch) h moves) p) refl
held-so given steps (Lost q epoch ∷ h) legal moves p =
    whole-held steps (act.Lose q) (place_of given h) (is_held h p)
    (if q == p then false else is_held h p) p
    (next-of given steps h (act.Lose q) (moves-now given steps (Lost q epoch) h moves))
    (held-so given steps h legal.2 (moves-before given steps (Lost q epoch) h moves) p) refl
held-so given steps (Crash ∷ h) legal moves p =
    among-held given h p legal.2
    ∙ block-held steps act.Crash (place_of given h) (is_held h p) p
    (next-of given steps h act.Crash (moves-now given steps Crash h moves))
    (held-so given steps h legal.2 (moves-before given steps Crash h moves) p)
held-so given steps (v ∷ h) legal moves p =
    held-so given steps h legal.2 (moves-before given steps v h moves) p

-- the steps never become fewer
assign-begun : (steps : List Step) (begun : ℕ) (left : List ℕ) → length steps ≤ begun
    → length steps ≤ (after_assign begun left).begun
assign-begun steps begun [] le = omega arith
assign-begun steps begun (p ∷ left) le = le

-- while a run drains all steps were begun
drains-used : (given : Given) (steps : List Step) (h : List Event) → is_paced given steps h ≡ true
    → is_draining h ≡ true → length steps ≤ (place_of given h).begun
drains-used given steps [] paced drains = cc
drains-used given steps (Drain ∷ h) paced drains =
    leb-true (length steps) (place_of given h).begun
    (and_parts (nat_le (length steps) (place_of given h).begun) (is_at_rest given h)
    (paced-now given steps Drain h paced)).0
drains-used given steps (Crash ∷ h) paced drains = cc
drains-used given steps (Assign q epoch position text ∷ h) paced drains =
    assign-begun steps (place_of given h).begun (place_of given h).left
    (drains-used given steps h (paced-before given steps (Assign q epoch position text) h paced)
    drains)
drains-used given steps (Revoke q epoch ∷ h) paced drains =
    let le : length steps ≤ (place_of given h).begun =
    drains-used given steps h (paced-before given steps (Revoke q epoch) h paced) drains in
    omega arith
drains-used given steps (Lost q epoch ∷ h) paced drains =
    let le : length steps ≤ (place_of given h).begun =
    drains-used given steps h (paced-before given steps (Lost q epoch) h paced) drains in
    omega arith
drains-used given steps (v ∷ h) paced drains =
    drains-used given steps h (paced-before given steps v h paced) drains

next-flows : (given : Given) (steps : List Step) (h : List Event) (step : Step)
    → is_paced given steps h ≡ true → next_step given steps h ≡ Some step → is_draining h ≡ false
next-flows given steps h step paced next = elim (cases_Bool (is_draining h)) [
  | inr flows ↦ flows
  | inl drains ↦
      let none : None ≡ Some step = sym (slice_get_past steps (place_of given h).begun
      (drains-used given steps h paced drains)) ∙ next in cc
]

-- ---- what the script allows

allowed-at : (parts : ℕ) (before steps : List Step) (n : ℕ) (step : Step)
    → AreAllowed parts before steps → slice_get steps n ≡ Some step
    → allowed_of parts (before ++ take n steps) step.act ≡ Ok tt
allowed-at parts before [] n step are found = cc
allowed-at parts before (s ∷ steps) zero step are found =
    let same : s ≡ step = cc in
    ap (λ (x : Step). allowed_of parts (before ++ []) x.act) (sym same)
    ∙ ap (λ (l : List Step). allowed_of parts l s.act) (append-nil before) ∙ are.0
allowed-at parts before (s ∷ steps) (suc n) step are found =
    let moved : (before ++ s ∷ []) ++ take n steps ≡ before ++ (s ∷ take n steps) =
    simp append_assoc in
    ap (λ (l : List Step). allowed_of parts l step.act) (sym moved)
    ∙ allowed-at parts (before ++ s ∷ []) steps n step are.1 found

known-by : (known : Bool) (allowed : Result (Unit {0}) ScriptKind)
    → (if known then allowed else Err UnknownPart) ≡ Ok tt → (known ≡ true) × (allowed ≡ Ok tt)
known-by true allowed e = (refl, e)
known-by false allowed e = cc

free-by : (held : Bool) → if_free held ≡ Ok tt → held ≡ false
free-by true e = cc
free-by false e = refl

held-yes : (held : Bool) → if_held held ≡ Ok tt → held ≡ true
held-yes true e = refl
held-yes false e = cc

module _ (given : Given) (h : List Event) (legal : IsLegal given h)
    (goes_on : has_ended h ≡ false) (flows : is_draining h ≡ false)
    (logs : (p : ℕ) → p < length given.logs → has_log given p ≡ true) (before : List Step)
    (so : (p : ℕ) → is_held h p ≡ held_by before p) where
  lose-by : (p : ℕ) → if_held (held_by before p) ≡ Ok tt → MayLose given h p
  lose-by p allowed =
      let held = so p ∙ held-yes (held_by before p) allowed in
      record { goes_on = goes_on; known = held-has_log given h p legal held; held = held }

  may-by : (a : Act) → allowed_of (length given.logs) before a ≡ Ok tt → MayDo given h a
  may-by (act.Assign p) allowed =
      let known = known-by (nat_lt p (length given.logs)) (if_free (held_by before p)) allowed in
      record {
        goes_on = goes_on;
        known = logs p (ltb-true p (length given.logs) known.0);
        flows = flows;
        free = so p ∙ free-by (held_by before p) known.1;
      }
  may-by (act.Revoke p) allowed = lose-by p
      (known-by (nat_lt p (length given.logs)) (if_held (held_by before p)) allowed).1
  may-by (act.Lose p) allowed = lose-by p
      (known-by (nat_lt p (length given.logs)) (if_held (held_by before p)) allowed).1
  may-by act.Crash allowed = record {
    goes_on = goes_on;
    known = list_all-each (has_log given) (held_parts given h) (λ p i.
        held-has_log given h p legal (In-filtered (is_held h) p (parts_of given) i).1);
  }

-- the next act of a run by the steps of a script may be done
pub next-may-be-done : (given : Given) (steps : List Step) (step : Step) (h : List Event)
    → IsRun given steps h → has_ended h ≡ false → AreAllowed (length given.logs) [] steps
    → ((p : ℕ) → p < length given.logs → has_log given p ≡ true) → (place_of given h).left ≡ []
    → next_step given steps h ≡ Some step → MayDo given h step.act
next-may-be-done given steps step h run goes_on are logs none next =
    may-by given h run.legal goes_on (next-flows given steps h step run.paced next) logs
    (take (place_of given h).begun steps)
    (λ p. sym (or-none (is_held h p))
    ∙ sym (ap (λ (l : List ℕ). is_held h p || is_among l p) none)
    ∙ held-so given steps h run.legal run.follows p)
    step.act
    (allowed-at (length given.logs) [] steps (place_of given h).begun step are next)
