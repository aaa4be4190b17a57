-- Reading a play script line by line.
use Rattle.std.proofs.Common.{◌≡◌, ℕ, ◌+◌, ◌-◌, ◌^◌, ◌<◌, ◌≤◌, true, false, List, [], ◌∷◌, ◌++◌, Option, Some, None, Result, Ok, Err, refl, sym, ap, subst, ◌∙◌, inl, inr, arith}
use Rattle.std.proofs.lemmas.Bool.{cases_Bool}
use Rattle.pc_lines.specs.Pieces.{lines_of, words_of}
use Rattle.pc_script.specs.declared.fault.ScriptFault.{ScriptFault}
use Rattle.pc_script.specs.declared.fault.ScriptKind.{ScriptKind}
use Rattle.pc_script.specs.declared.play.PlayAct.{PlayAct}
use Rattle.pc_script.specs.declared.play.PlayAct.TheVariants as play
use Rattle.pc_script.specs.declared.play.PlayLine.{PlayLine}
use Rattle.pc_script.specs.declared.play_word.PlayWord.{PlayWord}
use Rattle.pc_script.specs.declared.play_word.PlayWord.TheVariants as word
use Rattle.pc_script.specs.Arguments.{◌>>=◌, argument_of, part_of, no_word_of, one_word_of, two_words_of, is_skipped}
use Rattle.pc_script.proofs.ArgumentLemmas.{bind_ok, ok_is, fault_ok_is, cond_err_ok, argument_of-ok}
use Rattle.pc_script.specs.PlayScript.{ScriptOf, then_lines, play_word_of, of_part, of_number, of_none, poll_of, asked_of, play_act_of, numbered, play_line_of, play_lines, or_bad_line, script_of, IsPlayable, ArePlayable}

module _ (before : List PlayLine) (n : ℕ) (line : List ℕ) (more rest : List (List ℕ)) (whole : ScriptOf) (front : rest ≡ line ∷ more) (left : play_lines before n rest ≡ whole) where
  -- a line that says nothing
  pub play_lines-skipped : is_skipped line ≡ true → play_lines before (n + 1) more ≡ whole
  unfolding play_lines
  play_lines-skipped e =
      let here : play_lines before n (line ∷ more) ≡ play_lines before (n + 1) more = rw e refl in
      sym here ∙ ap (play_lines before n) (sym front) ∙ left

  then_here : Result PlayLine ScriptFault → ScriptOf
  then_here read = then_lines read (λ first. play_lines (before ++ first ∷ []) (n + 1) more)

  read_here : is_skipped line ≡ false → then_here (play_line_of n line) ≡ whole
  unfolding play_lines then_here
  read_here e =
      let here : play_lines before n (line ∷ more) ≡ then_here (play_line_of n line) = rw e refl in
      sym here ∙ ap (play_lines before n) (sym front) ∙ left

  -- a line that asks for something
  pub play_lines-read : (first : PlayLine) → is_skipped line ≡ false → play_line_of n line ≡ Ok first → play_lines (before ++ first ∷ []) (n + 1) more ≡ whole
  unfolding then_here
  play_lines-read first e read = sym (ap then_here read) ∙ read_here e

  -- a bad line
  pub play_lines-bad : (fault : ScriptFault) → is_skipped line ≡ false → play_line_of n line ≡ Err fault → whole ≡ Err fault
  unfolding then_here
  play_lines-bad fault e bad = sym (read_here e) ∙ ap then_here bad

-- no line is left
pub play_lines-end : (before : List PlayLine) (n : ℕ) (rest : List (List ℕ)) (whole : ScriptOf) → rest ≡ [] → play_lines before n rest ≡ whole → whole ≡ Ok before
unfolding play_lines
play_lines-end before n rest whole none left = sym left ∙ ap (play_lines before n) none

-- ---- what every act of a script keeps to

part_below : (act : ℕ → PlayAct) → ((p : ℕ) → p < 1024 → IsPlayable (act p)) → (words : List (List ℕ)) (asked : PlayAct) → of_part act words ≡ Ok asked → IsPlayable asked
part_below act fits words asked e =
    let text = bind_ok (one_word_of words) (λ text. part_of text >>= λ part. Ok (act part)) asked e in
    let part = bind_ok (part_of text.0) (λ part. Ok (act part)) asked text.2 in
    let range = argument_of-ok 0 1023 text.0 part.0 part.1 in
    subst IsPlayable (ok_is part.2) (fits part.0 (omega (arith, range.1)))

number_within : (act : ℕ → PlayAct) (least most : ℕ) → ((n : ℕ) → least ≤ n → n ≤ most → IsPlayable (act n)) → (words : List (List ℕ)) (asked : PlayAct) → of_number act least most words ≡ Ok asked → IsPlayable asked
number_within act least most fits words asked e =
    let text = bind_ok (one_word_of words) (λ text. argument_of least most text >>= λ n. Ok (act n)) asked e in
    let n = bind_ok (argument_of least most text.0) (λ n. Ok (act n)) asked text.2 in
    let range = argument_of-ok least most text.0 n.0 n.1 in
    subst IsPlayable (ok_is n.2) (fits n.0 range.0 range.1)

none_left : (act : PlayAct) → IsPlayable act → (words : List (List ℕ)) (asked : PlayAct) → of_none act words ≡ Ok asked → IsPlayable asked
none_left act fits words asked e =
    let none = bind_ok (no_word_of words) (λ _. Ok act) asked e in
    subst IsPlayable (ok_is none.2) fits

poll_fits : (words : List (List ℕ)) (asked : PlayAct) → poll_of words ≡ Ok asked → IsPlayable asked
poll_fits words asked e =
    let texts = bind_ok (two_words_of words) (λ texts. part_of texts.0 >>= λ part. argument_of 1 1_000_000 texts.1 >>= λ max. Ok (play.Poll part max)) asked e in
    let part = bind_ok (part_of texts.0.0) (λ part. argument_of 1 1_000_000 texts.0.1 >>= λ max. Ok (play.Poll part max)) asked texts.2 in
    let max = bind_ok (argument_of 1 1_000_000 texts.0.1) (λ max. Ok (play.Poll part.0 max)) asked part.2 in
    let below = argument_of-ok 0 1023 texts.0.0 part.0 part.1 in
    let range = argument_of-ok 1 1_000_000 texts.0.1 max.0 max.1 in
    subst IsPlayable (ok_is max.2) (omega (arith, below.1), range.0, range.1)

asked_fits : (text : Option PlayWord) (words : List (List ℕ)) (asked : PlayAct) → asked_of text words ≡ Ok asked → IsPlayable asked
unfolding asked_of
asked_fits None words asked e = absurd cc
asked_fits (Some word.Assign) words asked e = part_below play.Assign (λ p lt. lt) words asked e
asked_fits (Some word.Poll) words asked e = poll_fits words asked e
asked_fits (Some word.Take) words asked e = number_within play.Take 0 255 (λ n low high. omega arith) words asked e
asked_fits (Some word.End) words asked e = number_within play.End 1 4_000_000 (λ n low high. (low, high)) words asked e
asked_fits (Some word.Tick) words asked e = number_within play.Tick 0 (2 ^ 63 - 1) (λ n low high. omega arith) words asked e
asked_fits (Some word.Commit) words asked e = part_below play.Commit (λ p lt. lt) words asked e
asked_fits (Some word.Revoke) words asked e = part_below play.Revoke (λ p lt. lt) words asked e
asked_fits (Some word.Lose) words asked e = part_below play.Lose (λ p lt. lt) words asked e
asked_fits (Some word.Crash) words asked e = none_left play.Crash tt words asked e
asked_fits (Some word.Drain) words asked e = none_left play.Drain tt words asked e
asked_fits (Some word.Done) words asked e = none_left play.Done tt words asked e
asked_fits (Some word.Close) words asked e = none_left play.Close tt words asked e

IsPlayable-play_act_of : (words : List (List ℕ)) (act : PlayAct) → play_act_of words ≡ Ok act → IsPlayable act
IsPlayable-play_act_of [] act e = absurd cc
IsPlayable-play_act_of (text ∷ words) act e = asked_fits (play_word_of text) words act e

numbered_fits : (n : ℕ) (words : List (List ℕ)) (read : Result PlayAct ScriptKind) (line : PlayLine) → ((act : PlayAct) → read ≡ Ok act → IsPlayable act) → numbered n read ≡ Ok line → IsPlayable line.act
numbered_fits n words (Ok act) line fits e = subst (λ (l : PlayLine). IsPlayable l.act) (fault_ok_is e) (fits act refl)
numbered_fits n words (Err kind) line fits e = absurd cc

ArePlayable-push : (before : List PlayLine) (line : PlayLine) → ArePlayable before → IsPlayable line.act → ArePlayable (before ++ line ∷ [])
ArePlayable-push [] line fits one = (one, tt)
ArePlayable-push (first ∷ before) line fits one = (fits.0, ArePlayable-push before line fits.1 one)

then_fits : (read : Result PlayLine ScriptFault) (others : PlayLine → ScriptOf) (all : List PlayLine) → ((first : PlayLine) → read ≡ Ok first → others first ≡ Ok all → ArePlayable all) → then_lines read others ≡ Ok all → ArePlayable all
then_fits (Ok first) others all fits e = fits first refl e
then_fits (Err fault) others all fits e = absurd cc

lines_fit : (before : List PlayLine) (n : ℕ) (lines : List (List ℕ)) (all : List PlayLine) → ArePlayable before → play_lines before n lines ≡ Ok all → ArePlayable all
unfolding play_lines
lines_fit before n [] all fits e = subst ArePlayable (fault_ok_is e) fits
lines_fit before n (line ∷ lines) all fits e =
    elim (cases_Bool (is_skipped line)) [
      | inl skipped ↦ lines_fit before (n + 1) lines all fits (rw skipped at e)
      | inr other ↦
          then_fits (play_line_of n line) (λ first. play_lines (before ++ first ∷ []) (n + 1) lines) all (λ first read others.
          lines_fit (before ++ first ∷ []) (n + 1) lines all (ArePlayable-push before first fits (numbered_fits n (words_of line) (play_act_of (words_of line)) first (IsPlayable-play_act_of (words_of line)) read)) others) (rw other at e)
    ]

or_bad_line_ok : (read : ScriptOf) (lines : List PlayLine) → or_bad_line read ≡ Ok lines → read ≡ Ok lines
or_bad_line_ok (Ok all) lines e = cc
or_bad_line_ok (Err fault) lines e = absurd cc

pub ArePlayable-play_lines : (lines : List (List ℕ)) (all : List PlayLine) → or_bad_line (play_lines [] 1 lines) ≡ Ok all → ArePlayable all
ArePlayable-play_lines lines all e = lines_fit [] 1 lines all tt (or_bad_line_ok (play_lines [] 1 lines) all e)

-- every act of a play script is playable
pub ArePlayable-script_of : (text : List ℕ) (all : List PlayLine) → script_of text ≡ Ok all → ArePlayable all
unfolding script_of
ArePlayable-script_of text all e = ArePlayable-play_lines (lines_of text) all (cond_err_ok _ _ _ all e)
