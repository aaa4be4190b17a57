-- The first line of a text and the first word of a line, with what is left.
use Rattle.std.proofs.Common.{◌≡◌, ℕ, ◌+◌, ◌<◌, ◌≤◌, Bool, true, false, not, cond, List, [], ◌∷◌, length, get_or, drop, Some, None, refl, sym, ap, subst, ◌∙◌, inl, inr, add-one, one-add, add-zero, arith}
use Rattle.std.specs.Prelude.{filter, position}
use Rattle.std.specs.Iterator.{MakesProgress, item_count}
use Rattle.std.specs.List.{before_first, after_first, position_or_len, onto_first, All}
use Rattle.std.proofs.lemmas.Bool.{cases_Bool, cases_lt, not-true, ltb-true, ltb-false}
use Rattle.std.proofs.lemmas.List.{take_all, drop_all, length-drop, get_or-drop}
use Rattle.std.proofs.lemmas.Option.{cond_some}
use Rattle.std.proofs.lemmas.List.Sums.{fails_before_first, passes_at_first}
use Rattle.std.proofs.lemmas.List.Splits.{slice_split_none, slice_split_first}
use Rattle.pc_lines.specs.Pieces.{is_feed, is_space, is_not_empty, lines_of, words_of}

none_then_false : {A : Type 0} (b : Bool) (x : A) → cond b (Some x) None ≡ None → b ≡ false
none_then_false true x e = absurd cc
none_then_false false x e = refl

-- ---- where a test passes or fails at the front

before_first-pass : (p : ℕ → Bool) (b : ℕ) (bs : List ℕ) → p b ≡ true → before_first p (b ∷ bs) ≡ []
before_first-pass p b bs e = rw e refl

after_first-pass : (p : ℕ → Bool) (b : ℕ) (bs : List ℕ) → p b ≡ true → after_first p (b ∷ bs) ≡ bs
after_first-pass p b bs e = rw e refl

before_first-fail : (p : ℕ → Bool) (b : ℕ) (bs : List ℕ) → p b ≡ false → before_first p (b ∷ bs) ≡ b ∷ before_first p bs
before_first-fail p b bs e = rw (e, one-add) refl

after_first-fail : (p : ℕ → Bool) (b : ℕ) (bs : List ℕ) → p b ≡ false → after_first p (b ∷ bs) ≡ after_first p bs
after_first-fail p b bs e = rw (e, one-add, add-one, add-one) refl

-- ---- lines

-- a text that is not empty begins with the line before its first line feed
lines_of-first : (b : ℕ) (text : List ℕ) → lines_of (b ∷ text) ≡ before_first is_feed (b ∷ text) ∷ lines_of (after_first is_feed (b ∷ text))
lines_of-first b [] =
    elim (cases_Bool (is_feed b)) [
      | inl feed ↦ rw (before_first-pass is_feed b [] feed, after_first-pass is_feed b [] feed, feed) refl
      | inr other ↦ rw (before_first-fail is_feed b [] other, after_first-fail is_feed b [] other, other) refl
    ]
lines_of-first b (c ∷ text) =
    elim (cases_Bool (is_feed b)) [
      | inl feed ↦ rw (before_first-pass is_feed b (c ∷ text) feed, after_first-pass is_feed b (c ∷ text) feed, feed) refl
      | inr other ↦ rw (before_first-fail is_feed b (c ∷ text) other, after_first-fail is_feed b (c ∷ text) other, other) (ap (onto_first b) (lines_of-first c text))
    ]

length-onto_first-le : (b : ℕ) (lines : List (List ℕ)) → length (onto_first b lines) ≤ length lines + 1
length-onto_first-le b [] = omega arith
length-onto_first-le b (line ∷ lines) = omega arith

-- no more lines than bytes
pub length-lines_of-le : (text : List ℕ) → length (lines_of text) ≤ length text
length-lines_of-le [] = omega arith
length-lines_of-le (b ∷ text) =
    let others = length-lines_of-le text in
    elim (cases_Bool (is_feed b)) [
      | inl feed ↦ rw feed (omega arith)
      | inr other ↦ rw other (let longer = length-onto_first-le b (lines_of text) in omega arith)
    ]

-- ---- words

-- spaces at the front give no word
words_of-drop_spaces : (line : List ℕ) → words_of (drop (position_or_len (λ b. not (is_space b)) line) line) ≡ words_of line
words_of-drop_spaces [] = refl
words_of-drop_spaces (b ∷ line) =
    elim (cases_Bool (is_space b)) [
      | inl space ↦ rw (space, one-add) (words_of-drop_spaces line)
      | inr other ↦ let whole : drop (position_or_len (λ b. not (is_space b)) (b ∷ line)) (b ∷ line) ≡ b ∷ line = rw other refl in ap words_of whole
    ]

not_empty : (b : ℕ) (bs : List ℕ) → is_space b ≡ false → is_not_empty (before_first is_space (b ∷ bs)) ≡ true
not_empty b bs e = rw (before_first-fail is_space b bs e) refl

no_space : (line : List ℕ) → length line ≤ position_or_len is_space line → All (λ b. is_space b ≡ false) line
no_space line none = λ k d lt. fails_before_first is_space line k d (omega arith)

-- a line that begins with another byte begins with the word before its first space
words_of-first : (b : ℕ) (line : List ℕ) → is_space b ≡ false → words_of (b ∷ line) ≡ before_first is_space (b ∷ line) ∷ words_of (after_first is_space (b ∷ line))
words_of-first b line e =
    elim (cases_lt (position_or_len is_space (b ∷ line)) (length (b ∷ line))) [
      | inl found ↦ ap (filter is_not_empty) (slice_split_first is_space (b ∷ line) 0 found) ∙ rw (not_empty b line e) refl
      | inr none ↦
          let one : words_of (b ∷ line) ≡ (b ∷ line) ∷ [] = ap (filter is_not_empty) (slice_split_none is_space (b ∷ line) (no_space (b ∷ line) none)) in
          let all : before_first is_space (b ∷ line) ≡ b ∷ line = take_all _ (b ∷ line) none in
          let nothing : after_first is_space (b ∷ line) ≡ [] = drop_all _ (b ∷ line) (omega arith) in
          one ∙ sym (ap (λ (piece : List ℕ). piece ∷ words_of (after_first is_space (b ∷ line))) all ∙ ap (λ (rest : List ℕ). (b ∷ line) ∷ words_of rest) nothing)
    ]

-- ---- one step of the iterators

-- a call of `next` that took the first item went on to the others
pub goes_on : {A B : Type 0} (can : List A → Type 0) → ((s : List A) → can s) → (s : List A) (x : A) (t : List A) (item : B) → s ≡ x ∷ t → MakesProgress can (item_count (λ (rest : List A). rest)) s (Some item) t
goes_on can always s x t item e = record {
  on = λ _. (always t, tt, subst (λ (l : List _). length t < length l) (sym e) (omega arith));
  keeps = always t;
  rests = λ _. tt;
}

pub lines_of-step : (text line rest : List ℕ) → 0 < length text → line ≡ before_first is_feed text → rest ≡ after_first is_feed text → lines_of text ≡ line ∷ lines_of rest
lines_of-step [] line rest some p q = absurd (omega arith)
lines_of-step (b ∷ text) line rest some p q = rw (p, q) (lines_of-first b text)

words_of-at_first : (line : List ℕ) → 0 < length line → is_space (get_or line 0 0) ≡ false → words_of line ≡ before_first is_space line ∷ words_of (after_first is_space line)
words_of-at_first [] some other = absurd (omega arith)
words_of-at_first (b ∷ line) some other = words_of-first b line other

abbrev pub is_other : ℕ → Bool
is_other b = not (is_space b)

-- what stands behind the leading spaces begins with a word
pub words_of-step : (line : List ℕ) (start : ℕ) (word rest : List ℕ) → position is_other line ≡ Some start → word ≡ before_first is_space (drop start line) → rest ≡ after_first is_space (drop start line) → words_of line ≡ word ∷ words_of rest
words_of-step line start word rest found p q =
    let at = cond_some _ _ _ found in
    let within : position_or_len is_other line < length line = ltb-true _ _ at.0 in
    let first : is_space (get_or (drop start line) 0 0) ≡ false = rw (get_or-drop, add-zero, ← at.1) (not-true _ (passes_at_first is_other line 0 within)) in
    let some : 0 < length (drop start line) = rw (← at.1) (omega (arith, length-drop (position_or_len is_other line) line)) in
    sym (words_of-drop_spaces line) ∙ rw at.1 (rw (p, q) (words_of-at_first (drop start line) some first))

-- a line of spaces has no word
pub words_of-none : (line : List ℕ) → position is_other line ≡ None → words_of line ≡ []
words_of-none line none =
    let past : length line ≤ position_or_len is_other line = ltb-false _ _ (none_then_false _ _ none) in
    sym (words_of-drop_spaces line) ∙ ap words_of (drop_all _ line past)
