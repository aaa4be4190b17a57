-- Reading a rebalance script line by line, and the parts that its steps leave held.
use Rattle.std.proofs.Common.{◌≡◌, ℕ, ◌+◌, ◌<◌, ◌≤◌, Bool, true, false, cond, List, [], ◌∷◌, ◌++◌, get_or, Option, Some, None, Result, Ok, Err, refl, sym, ap, subst, append_assoc, append-nil, ◌∙◌, inl, inr, arith}
use Rattle.std.specs.Prelude.{IfOk}
use Rattle.std.proofs.lemmas.Bool.{cases_Bool}
use Rattle.std.proofs.lemmas.List.Sums.{fold_push}
use Rattle.pc_lines.specs.Pieces.{lines_of, words_of}
use Rattle.pc_script.specs.declared.fault.ScriptFault.{ScriptFault}
use Rattle.pc_script.specs.declared.fault.ScriptKind.{ScriptKind}
use Rattle.pc_model.specs.declared.step.Act.{Act}
use Rattle.pc_model.specs.declared.step.Act.TheVariants.{Assign, Revoke, Lose, Crash}
use Rattle.pc_model.specs.declared.step.Step.{Step}
use Rattle.pc_script.specs.declared.step_word.StepWord.{StepWord}
use Rattle.pc_script.specs.declared.step_word.StepWord.TheVariants as word
use Rattle.pc_script.specs.Arguments.{◌>>=◌, part_of, no_word_of, one_word_of, is_skipped}
use Rattle.pc_script.proofs.ArgumentLemmas.{bind_ok, ok_is, fault_ok_is, cond_err_ok, argument_of-ok}
use Rattle.pc_script.specs.Steps.{StepsOf, step_word_of, count_of, count_and_part_of, part_step, crash_step, step_asked_of, step_behind_at, written_step_of, held_after, allowed_of, step_of, step_at, then_steps, steps_behind, or_bad_step, steps_of, IsAct, IsStep, AreAllowed, AreSteps, Mirrors}

-- ---- what a written step keeps to

part_step_fits : (act : ℕ → Act) → ((p : ℕ) → p < 1024 → IsAct (act p)) → (count : List ℕ) (words : List (List ℕ)) (step : Step) → part_step act count words ≡ Ok step → IsStep step
part_step_fits act fits count words step e =
    let found = bind_ok (count_and_part_of count words) (λ found. Ok (record { count = found.0; act = act found.1 })) step e in
    let text = bind_ok (one_word_of words) (λ text. count_of count >>= λ n. part_of text >>= λ part. Ok (n, part)) found.0 found.1 in
    let n = bind_ok (count_of count) (λ n. part_of text.0 >>= λ part. Ok (n, part)) found.0 text.2 in
    let part = bind_ok (part_of text.0) (λ part. Ok (n.0, part)) found.0 n.2 in
    let pair : (n.0, part.0) ≡ found.0 = ok_is {x = (n.0, part.0)} part.2 in
    let few = argument_of-ok 0 4_000_000 count n.0 n.1 in
    let below = argument_of-ok 0 1023 text.0 part.0 part.1 in
    subst IsStep (ok_is {x = record { count = found.0.0; act = act found.0.1 }} found.2) (subst (λ (x : ℕ × ℕ). (x.0 ≤ 4_000_000) × IsAct (act x.1)) pair (few.1, fits part.0 (omega (arith, below.1))))

crash_step_fits : (count : List ℕ) (words : List (List ℕ)) (step : Step) → crash_step count words ≡ Ok step → IsStep step
crash_step_fits count words step e =
    let none = bind_ok (no_word_of words) (λ _. count_of count >>= λ n. Ok (record { count = n; act = Crash })) step e in
    let n = bind_ok (count_of count) (λ n. Ok (record { count = n; act = Crash })) step none.2 in
    let few = argument_of-ok 0 4_000_000 count n.0 n.1 in
    subst IsStep (ok_is n.2) (few.1, tt)

asked_fits : (count : List ℕ) (text : Option StepWord) (words : List (List ℕ)) (step : Step) → step_asked_of count text words ≡ Ok step → IsStep step
unfolding step_asked_of
asked_fits count None words step e = absurd cc
asked_fits count (Some word.Assign) words step e = part_step_fits Assign (λ p lt. lt) count words step e
asked_fits count (Some word.Revoke) words step e = part_step_fits Revoke (λ p lt. lt) count words step e
asked_fits count (Some word.Lose) words step e = part_step_fits Lose (λ p lt. lt) count words step e
asked_fits count (Some word.Crash) words step e = crash_step_fits count words step e

behind_at_fits : (words : List (List ℕ)) (step : Step) → step_behind_at words ≡ Ok step → IsStep step
behind_at_fits [] step e = absurd cc
behind_at_fits (count ∷ []) step e = absurd cc
behind_at_fits (count ∷ text ∷ words) step e = asked_fits count (step_word_of text) words step e

pub behind_at_in_range : (words : List (List ℕ)) (r : Result Step ScriptKind) → r ≡ step_behind_at words → IfOk r IsStep
behind_at_in_range words (Ok step) e = behind_at_fits words step (sym e)
behind_at_in_range words (Err kind) e = tt

cond_ok_err : {A : Type 0} (b : Bool) (r : Result A ScriptKind) (kind : ScriptKind) (y : A) → cond b r (Err kind) ≡ Ok y → r ≡ Ok y
cond_ok_err true r kind y e = e
cond_ok_err false r kind y e = absurd cc

IsStep-written_step_of : (words : List (List ℕ)) (step : Step) → written_step_of words ≡ Ok step → IsStep step
IsStep-written_step_of [] step e = absurd cc
IsStep-written_step_of (text ∷ words) step e = behind_at_fits words step (cond_ok_err _ _ _ step e)

-- ---- the parts that are held

-- one more act
pub Mirrors-push : (flags new : List Bool) (before : List Step) (step : Step) → Mirrors flags before → ((p : ℕ) → p < 1024 → get_or new p false ≡ held_after p (get_or flags p false) step.act) → Mirrors new (before ++ step ∷ [])
Mirrors-push flags new before step mirrors changed p lt =
    changed p lt ∙ ap (λ held. held_after p held step.act) (mirrors p lt) ∙ sym (fold_push (λ held (s : Step). held_after p held s.act) false before step)

-- ---- line by line

module _ (parts : ℕ) (before : List Step) (n : ℕ) (line : List ℕ) (more rest : List (List ℕ)) (whole : StepsOf) (front : rest ≡ line ∷ more) (left : steps_behind parts before n rest ≡ whole) where
  -- a line that says nothing
  pub steps_behind-skipped : is_skipped line ≡ true → steps_behind parts before (n + 1) more ≡ whole
  unfolding steps_behind
  steps_behind-skipped e =
      let here : steps_behind parts before n (line ∷ more) ≡ steps_behind parts before (n + 1) more = rw e refl in
      sym here ∙ ap (steps_behind parts before n) (sym front) ∙ left

  then_here : Result Step ScriptFault → StepsOf
  then_here read = then_steps read (λ step. steps_behind parts (before ++ step ∷ []) (n + 1) more)

  read_here : is_skipped line ≡ false → then_here (step_at n (step_of parts before line)) ≡ whole
  unfolding steps_behind then_here
  read_here e =
      let here : steps_behind parts before n (line ∷ more) ≡ then_here (step_at n (step_of parts before line)) = rw e refl in
      sym here ∙ ap (steps_behind parts before n) (sym front) ∙ left

  -- a line with a step
  pub steps_behind-read : (step : Step) → is_skipped line ≡ false → step_at n (step_of parts before line) ≡ Ok step → steps_behind parts (before ++ step ∷ []) (n + 1) more ≡ whole
  unfolding then_here
  steps_behind-read step e read = sym (ap then_here read) ∙ read_here e

  -- a bad line
  pub steps_behind-bad : (fault : ScriptFault) → is_skipped line ≡ false → step_at n (step_of parts before line) ≡ Err fault → whole ≡ Err fault
  unfolding then_here
  steps_behind-bad fault e bad = sym (read_here e) ∙ ap then_here bad

-- no line is left
pub steps_behind-end : (parts : ℕ) (before : List Step) (n : ℕ) (rest : List (List ℕ)) (whole : StepsOf) → rest ≡ [] → steps_behind parts before n rest ≡ whole → whole ≡ Ok before
unfolding steps_behind
steps_behind-end parts before n rest whole none left = sym left ∙ ap (steps_behind parts before n) none

-- ---- all steps keep to it

step_fits : (parts n : ℕ) (before : List Step) (line : List ℕ) (read : Result Step ScriptKind) (step : Step) → read ≡ step_of parts before line → step_at n read ≡ Ok step → IsStep step
step_fits parts n before line (Ok first) step is e =
    let written = bind_ok (written_step_of (words_of line)) (λ written. allowed_of parts before written.act >>= λ _. Ok written) first (sym is) in
    let allowed = bind_ok (allowed_of parts before written.0.act) (λ _. Ok written.0) first written.2 in
    subst IsStep (ok_is allowed.2 ∙ fault_ok_is e) (IsStep-written_step_of (words_of line) written.0 written.1)
step_fits parts n before line (Err kind) step is e = absurd cc

AreSteps-push : (before : List Step) (step : Step) → AreSteps before → IsStep step → AreSteps (before ++ step ∷ [])
AreSteps-push [] step fits one = (one, tt)
AreSteps-push (first ∷ before) step fits one = (fits.0, AreSteps-push before step fits.1 one)

then_fits : (read : Result Step ScriptFault) (others : Step → StepsOf) (all : List Step) → ((step : Step) → read ≡ Ok step → others step ≡ Ok all → AreSteps all) → then_steps read others ≡ Ok all → AreSteps all
then_fits (Ok step) others all fits e = fits step refl e
then_fits (Err fault) others all fits e = absurd cc

lines_fit : (parts : ℕ) (before : List Step) (n : ℕ) (lines : List (List ℕ)) (all : List Step) → AreSteps before → steps_behind parts before n lines ≡ Ok all → AreSteps all
unfolding steps_behind
lines_fit parts before n [] all fits e = subst AreSteps (fault_ok_is e) fits
lines_fit parts before n (line ∷ lines) all fits e =
    elim (cases_Bool (is_skipped line)) [
      | inl skipped ↦ lines_fit parts before (n + 1) lines all fits (rw skipped at e)
      | inr other ↦
          then_fits (step_at n (step_of parts before line)) (λ step. steps_behind parts (before ++ step ∷ []) (n + 1) lines) all (λ step read others.
          lines_fit parts (before ++ step ∷ []) (n + 1) lines all (AreSteps-push before step fits (step_fits parts n before line (step_of parts before line) step refl read)) others) (rw other at e)
    ]

or_bad_step_ok : (read : StepsOf) (steps : List Step) → or_bad_step read ≡ Ok steps → read ≡ Ok steps
or_bad_step_ok (Ok all) steps e = cc
or_bad_step_ok (Err fault) steps e = absurd cc

pub AreSteps-steps_behind : (parts : ℕ) (lines : List (List ℕ)) (all : List Step) → or_bad_step (steps_behind parts [] 1 lines) ≡ Ok all → AreSteps all
AreSteps-steps_behind parts lines all e = lines_fit parts [] 1 lines all tt (or_bad_step_ok (steps_behind parts [] 1 lines) all e)

-- every step of a script keeps to it
pub AreSteps-steps_of : (text : List ℕ) (parts : ℕ) (all : List Step) → steps_of text parts ≡ Ok all → AreSteps all
unfolding steps_of
AreSteps-steps_of text parts all e = AreSteps-steps_behind parts (lines_of text) all (cond_err_ok _ _ _ all e)

-- ---- each step is allowed behind those before

-- these steps, behind those before
record Behind (parts : ℕ) (before all : List Step) : Type 0 where
  steps : List Step
  whole : all ≡ before ++ steps
  allowed : AreAllowed parts before steps

step_allowed : (parts n : ℕ) (before : List Step) (line : List ℕ) (read : Result Step ScriptKind) (step : Step) → read ≡ step_of parts before line → step_at n read ≡ Ok step → allowed_of parts before step.act ≡ Ok tt
step_allowed parts n before line (Ok first) step is e =
    let written = bind_ok (written_step_of (words_of line)) (λ written. allowed_of parts before written.act >>= λ _. Ok written) first (sym is) in
    let allowed = bind_ok (allowed_of parts before written.0.act) (λ _. Ok written.0) first written.2 in
    subst (λ (s : Step). allowed_of parts before s.act ≡ Ok tt) (ok_is allowed.2 ∙ fault_ok_is e) allowed.1
step_allowed parts n before line (Err kind) step is e = absurd cc

then_behind : (parts : ℕ) (before : List Step) (read : Result Step ScriptFault) (others : Step → StepsOf) (all : List Step) → ((step : Step) → read ≡ Ok step → others step ≡ Ok all → Behind parts before all) → then_steps read others ≡ Ok all → Behind parts before all
then_behind parts before (Ok step) others all fits e = fits step refl e
then_behind parts before (Err fault) others all fits e = absurd cc

one_behind : (parts : ℕ) (before : List Step) (step : Step) (all : List Step) → allowed_of parts before step.act ≡ Ok tt → Behind parts (before ++ step ∷ []) all → Behind parts before all
one_behind parts before step all here rest = record {
  steps = step ∷ rest.steps;
  whole = rest.whole ∙ append_assoc before (step ∷ []) rest.steps;
  allowed = (here, rest.allowed);
}

lines_behind : (parts : ℕ) (before : List Step) (n : ℕ) (lines : List (List ℕ)) (all : List Step) → steps_behind parts before n lines ≡ Ok all → Behind parts before all
unfolding steps_behind
lines_behind parts before n [] all e = record { steps = []; whole = sym (append-nil before ∙ fault_ok_is e); allowed = tt }
lines_behind parts before n (line ∷ lines) all e =
    elim (cases_Bool (is_skipped line)) [
      | inl skipped ↦ lines_behind parts before (n + 1) lines all (rw skipped at e)
      | inr other ↦
          then_behind parts before (step_at n (step_of parts before line)) (λ step. steps_behind parts (before ++ step ∷ []) (n + 1) lines) all (λ step read others.
          one_behind parts before step all (step_allowed parts n before line (step_of parts before line) step refl read) (lines_behind parts (before ++ step ∷ []) (n + 1) lines all others)) (rw other at e)
    ]

pub AreAllowed-steps_of : (text : List ℕ) (parts : ℕ) (all : List Step) → steps_of text parts ≡ Ok all → AreAllowed parts [] all
unfolding steps_of
AreAllowed-steps_of text parts all e =
    let behind = lines_behind parts [] 1 (lines_of text) all (or_bad_step_ok (steps_behind parts [] 1 (lines_of text)) all (cond_err_ok _ _ _ all e)) in
    subst (AreAllowed parts []) (sym behind.whole) behind.allowed
