-- The parts that a run holds, or that a crash still has to assign again, are those of the steps whose
-- blocks were begun.
use Rattle.std.proofs.Common.{◌≡◌, ℕ, zero, suc, ◌+◌, Bool, true, false, ◌||◌, ◌==◌, List, [], ◌∷◌, ◌++◌, take, drop, Some, refl, ap, sym, ◌∙◌, inl, inr, ◌⊎◌, eq-eqb, add-one}
use Rattle.std.specs.Prelude.{if◌then◌else◌, slice_get}
use Rattle.std.specs.List.{list_any}
use Rattle.std.proofs.lemmas.Bool.{cases_Bool, eqb-true}
use Rattle.std.proofs.lemmas.List.{take_all}
use Rattle.std.proofs.lemmas.List.Sums.{fold-append}
use Rattle.pc_model.specs.declared.event.Event.{Event}
use Rattle.pc_model.specs.declared.event.Event.TheVariants.{Assign, Revoke, Lost, Crash}
use Rattle.pc_model.specs.declared.step.Act.{Act}
use Rattle.pc_model.specs.declared.step.Act.TheVariants as act
use Rattle.pc_model.specs.declared.step.Step.{Step}
use Rattle.pc_model.specs.Given.{Given, parts_of}
use Rattle.pc_model.specs.Jobs.{is_draining}
use Rattle.pc_model.specs.Epochs.{is_held}
use Rattle.pc_model.specs.Lawful.{IsLegal, ends_in_commit, held_parts}
use Rattle.pc_model.specs.Steps.{after_assign, follows, is_next_part, may_begin, place_of, same_act}
use Rattle.pc_laws.proofs.Lists.{In-filtered, In-list_any, list_any-In, or-cases, true-not-false}
use Rattle.pc_run_laws.specs.Held.{held_after, held_by, is_left}
use Rattle.pc_run_laws.specs.Run.{IsRun}
use Rattle.pc_run_laws.proofs.Moves.{Begins, begins, held-part}
use Rattle.pc_run_laws.proofs.RestLaw.{at-end, ends-in, moves-before, moves-now}

-- ---- the steps so far, and one more

take-found : (steps : List Step) (n : ℕ) (step : Step) → slice_get steps n ≡ Some step
    → take (suc n) steps ≡ take n steps ++ step ∷ []
take-found [] n step found = cc
take-found (s ∷ steps) zero step found = let same : s ≡ step = cc in ap (λ (x : Step). x ∷ []) same
take-found (s ∷ steps) (suc n) step found = ap (λ (l : List Step). s ∷ l) (take-found steps n step found)

one-more : (steps : List Step) (n : ℕ) (step : Step) (p : ℕ) → slice_get steps n ≡ Some step
    → held_after (take (n + 1) steps) p ≡ held_by p (held_after (take n steps) p) step.act
one-more steps n step p found =
    ap (λ (l : List Step). held_after l p)
    (ap (λ (m : ℕ). take m steps) (add-one n) ∙ take-found steps n step found)
    ∙ fold-append (λ (held : Bool) (s : Step). held_by p held s.act) false (take n steps) (step ∷ [])

act-same : (a b : Act) → same_act a b ≡ true → a ≡ b
act-same (act.Assign p) (act.Assign q) e = ap act.Assign (eqb-true p q e)
act-same (act.Revoke p) (act.Revoke q) e = ap act.Revoke (eqb-true p q e)
act-same (act.Lose p) (act.Lose q) e = ap act.Lose (eqb-true p q e)
act-same act.Crash act.Crash e = refl
act-same a b e = cc

-- ---- one block

or-none : (held : Bool) → (held || false) ≡ held
or-none true = refl
or-none false = refl

-- whether the part is one of these
abbrev is_among : List ℕ → ℕ → Bool
is_among left p = list_any (λ q. q == p) left

-- so far: held, or left to be assigned again
abbrev GoesBySteps : Given → List Step → List Event → ℕ → Type 0
GoesBySteps given steps h p = (is_held h p || is_left given h p)
    ≡ held_after (take (place_of given h).begun steps) p

again-held : (same held among so : Bool) → (held || (same || among)) ≡ so
    → ((if same then true else held) || among) ≡ so
again-held true true among so e = e
again-held true false among so e = e
again-held false held among so e = e

module _ (given : Given) (steps : List Step) (h : List Event) (p : ℕ)
    (so_far : GoesBySteps given steps h p) where
  whole-so : (place_of given h).left ≡ [] → is_held h p ≡ held_after (take (place_of given h).begun steps) p
  whole-so whole = sym (or-none (is_held h p))
      ∙ sym (ap (λ (l : List ℕ). is_held h p || is_among l p) whole) ∙ so_far

  -- after the block of an act
  block-held : (act : Act) → Begins given steps h act
      → held_by p (is_held h p) act ≡ held_after (take ((place_of given h).begun + 1) steps) p
  block-held act at =
      ap (λ (x : Act). held_by p (is_held h p) x) (sym (act-same at.step.act act at.is_act))
      ∙ ap (λ (b : Bool). held_by p b at.step.act) (whole-so at.whole)
      ∙ sym (one-more steps (place_of given h).begun at.step p at.found)

  -- one that leaves no part to be assigned again
  whole-held : (act : Act) (now : Bool) → Begins given steps h act → now ≡ held_by p (is_held h p) act
      → (now || is_left given h p) ≡ held_after (take ((place_of given h).begun + 1) steps) p
  whole-held act now at is =
      ap (λ (l : List ℕ). now || is_among l p) at.whole ∙ or-none now ∙ is ∙ block-held act at

  -- an assignment: of the next part that is left, or of a step
  assign-held : (q : ℕ) (left : List ℕ) → (place_of given h).left ≡ left
      → (is_next_part left q ≡ true) ⊎ Begins given steps h (act.Assign q)
      → ((if q == p then true else is_held h p) || is_among (after_assign (place_of given h).begun left).left p)
      ≡ held_after (take (after_assign (place_of given h).begun left).begun steps) p
  assign-held q [] is (inl next) = cc
  assign-held q [] is (inr at) =
      or-none (if q == p then true else is_held h p) ∙ block-held (act.Assign q) at
  assign-held q (r ∷ left) is (inl next) =
      let same : r ≡ q = eqb-true r q next in
      again-held (q == p) (is_held h p) (is_among left p) (held_after (take (place_of given h).begun steps) p)
      (ap (λ (x : ℕ). is_held h p || ((x == p) || is_among left p)) (sym same)
      ∙ ap (λ (l : List ℕ). is_held h p || is_among l p) (sym is) ∙ so_far)
  assign-held q (r ∷ left) is (inr at) = let none : r ∷ left ≡ [] = sym is ∙ at.whole in cc none

-- ---- the parts that a crash takes

among-held : (given : Given) (h : List Event) (p : ℕ) → IsLegal given h
    → is_among (held_parts given h) p ≡ is_held h p
among-held given h p legal = elim (cases_Bool (is_held h p)) [
  | inl held ↦ list_any-In (λ (q : ℕ). q == p) p (held_parts given h) (held-part given h p legal held)
      (eq-eqb p p refl) ∙ sym held
  | inr free ↦ elim (cases_Bool (is_among (held_parts given h) p)) [
    | inr none ↦ none ∙ sym free
    | inl some ↦
        let one = In-list_any (λ (q : ℕ). q == p) (held_parts given h) some in
        let held = (In-filtered (is_held h) one.0 (parts_of given) one.1).1 in
        true-not-false (is_held h p) (ap (is_held h) (sym (eqb-true one.0 p one.2)) ∙ held) free
  ]
]

-- ---- every event

-- a revocation begins where its commit did
revoke-begins : (given : Given) (steps : List Step) (h : List Event) (q : ℕ) → ends_in_commit h q ≡ true
    → may_begin given steps (drop 1 h) (act.Revoke q) ≡ true → Begins given steps h (act.Revoke q)
revoke-begins given steps h q ends may =
    let at = begins given steps (drop 1 h) (act.Revoke q) may in
    let place = ends-in given h q ends in
    record { step = at.step; found = rw place at at.found; is_act = at.is_act; whole = rw place at at.whole }

pub held-so : (given : Given) (steps : List Step) (h : List Event) (p : ℕ) → IsLegal given h
    → follows given steps h ≡ true
    → (is_held h p || is_left given h p) ≡ held_after (take (place_of given h).begun steps) p
held-so given steps [] p legal moves = refl
held-so given steps (Assign q epoch position text ∷ h) p legal moves =
    assign-held given steps h p
    (held-so given steps h p legal.2 (moves-before given steps (Assign q epoch position text) h moves))
    q (place_of given h).left refl
    (elim (or-cases (is_next_part (place_of given h).left q) (may_begin given steps h (act.Assign q))
    (moves-now given steps (Assign q epoch position text) h moves)) [
      | inl again ↦ inl again
      | inr may ↦ inr (begins given steps h (act.Assign q) may)
    ])
held-so given steps (Revoke q epoch ∷ h) p legal moves =
    whole-held given steps h p
    (held-so given steps h p legal.2 (moves-before given steps (Revoke q epoch) h moves))
    (act.Revoke q) (if q == p then false else is_held h p)
    (revoke-begins given steps h q legal.0.after_commit (moves-now given steps (Revoke q epoch) h moves)) refl
held-so given steps (Lost q epoch ∷ h) p legal moves =
    whole-held given steps h p
    (held-so given steps h p legal.2 (moves-before given steps (Lost q epoch) h moves))
    (act.Lose q) (if q == p then false else is_held h p)
    (begins given steps h (act.Lose q) (moves-now given steps (Lost q epoch) h moves)) refl
held-so given steps (Crash ∷ h) p legal moves =
    among-held given h p legal.2
    ∙ block-held given steps h p (held-so given steps h p legal.2 (moves-before given steps Crash h moves))
    act.Crash (begins given steps h act.Crash (moves-now given steps Crash h moves))
held-so given steps (e ∷ h) p legal moves =
    held-so given steps h p legal.2 (moves-before given steps e h moves)

module _ (given : Given) (steps : List Step) (h : List Event) (p : ℕ) (run : IsRun given steps h) where
  pub held-cut : (is_held h p || is_left given h p) ≡ held_after (take (place_of given h).begun steps) p
  held-cut = held-so given steps h p run.legal run.follows

  pub held-whole : (place_of given h).left ≡ []
      → is_held h p ≡ held_after (take (place_of given h).begun steps) p
  held-whole = whole-so given steps h p held-cut

  pub held-drained : is_draining h ≡ true → is_held h p ≡ held_after steps p
  held-drained drains =
      let end = at-end given steps h run.legal run.follows run.paced drains in
      held-whole end.left
      ∙ ap (λ (l : List Step). held_after l p) (take_all (place_of given h).begun steps end.used)
