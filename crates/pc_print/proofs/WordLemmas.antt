-- Words are visible, so spaces and line feeds part them.
use Rattle.std.proofs.Common.{◌≡◌, ℕ, suc, ◌/◌, ◌%◌, ◌^◌, ◌<◌, ◌≤◌, Bool, true, false, leb, List, [], ◌∷◌, ◌++◌, length, refl, sym, ap, subst, ◌∙◌, inl, inr, arith}
use Rattle.std.specs.Prelude.{◌&&◌}
use Rattle.std.specs.Fmt.{decimal}
use Rattle.std.specs.Char.{digit_char}
use Rattle.std.specs.List.{flat_map, slice_split, onto_first, AllByRecursion}
use Rattle.std.specs.Str.Parse.{AllDigits}
use Rattle.std.proofs.lemmas.Bool.{cases_Bool, cases_lt, and_parts, leb-true, ne_eqb, eqb-true, lt-ltb, le-ltb}
use Rattle.std.proofs.lemmas.List.{append-nil}
use Rattle.std.proofs.lemmas.List.Splits.{slice_split_none, slice_split_at, length-slice_split}
use Rattle.std.proofs.lemmas.List.Elements.{All-from_recursion}
use Rattle.std.proofs.lemmas.Str.Parse.{digit_from_value}
use Rattle.std.proofs.lemmas.Fmt.{decimal_is_IsNumeral}
use Rattle.pc_lines.specs.Escape.{IsBytes, is_plain, escape_of, escaped_of}
use Rattle.pc_lines.specs.Pieces.{is_feed, is_space, lines_of}
use Rattle.pc_print.specs.Line.{marked, spaced, IsEnded}

-- ---- visible bytes

abbrev IsVisible : ℕ → Type 0
IsVisible b = (33 ≤ b) × (b ≤ 126)

abbrev pub AreVisible : List ℕ → Type 0
AreVisible word = AllByRecursion IsVisible word

-- the same as a test, for words that are written out
abbrev are_visible : List ℕ → Bool
are_visible [] = true
are_visible (b ∷ word) = (leb 33 b && leb b 126) && are_visible word

pub name_visible : (word : List ℕ) → are_visible word ≡ true → AreVisible word
name_visible [] e = tt
name_visible (b ∷ word) e =
    let parts = and_parts (leb 33 b && leb b 126) (are_visible word) e in
    let range = and_parts (leb 33 b) (leb b 126) parts.0 in
    ((leb-true 33 b range.0, leb-true b 126 range.1), name_visible word parts.1)

AreVisible-append : (a b : List ℕ) → AreVisible a → AreVisible b → AreVisible (a ++ b)
AreVisible-append [] b p q = q
AreVisible-append (x ∷ a) b p q = (p.0, AreVisible-append a b p.1 q)

digits_visible : (word : List ℕ) → AllDigits 10 word → AreVisible word
digits_visible [] h = tt
digits_visible (c ∷ word) h =
    let range = digit_from_value c h.0 in
    ((omega (arith, range.0), omega (arith, range.1)), digits_visible word h.1)

pub decimal_visible : (n : ℕ) → n < 2 ^ 64 → AreVisible (decimal n)
decimal_visible n small = digits_visible (decimal n) (decimal_is_IsNumeral n small).0.1

digit_char_visible : (d : ℕ) → d < 16 → IsVisible (digit_char d)
digit_char_visible d lt =
    elim (cases_lt d 10) [
      | inl small ↦ rw (lt-ltb d 10 small) (omega arith, omega arith)
      | inr big ↦ rw (le-ltb d 10 big) (omega arith, omega arith)
    ]

escape_visible : (b : ℕ) → b < 256 → AreVisible (escape_of b)
escape_visible b lt =
    elim (cases_Bool (is_plain b)) [
      | inl plain ↦
          let range = and_parts (leb 33 b) (leb b 126) (and_parts _ _ plain).0 in
          rw plain ((leb-true 33 b range.0, leb-true b 126 range.1), tt)
      | inr other ↦ rw other ((omega arith, omega arith), (digit_char_visible (b / 16) (omega arith), (digit_char_visible (b % 16) (omega arith), tt)))
    ]

escaped_visible : (bytes : List ℕ) → IsBytes bytes → AreVisible (escaped_of bytes)
escaped_visible [] small = tt
escaped_visible (b ∷ bytes) small = AreVisible-append (escape_of b) (escaped_of bytes) (escape_visible b (small 0)) (escaped_visible bytes (λ i. small (suc i)))

pub marked_visible : (bytes : List ℕ) → IsBytes bytes → AreVisible (marked bytes)
marked_visible bytes small = ((omega arith, omega arith), escaped_visible bytes small)

-- ---- spaces

no_space : (word : List ℕ) → AreVisible word → AllByRecursion (λ b. is_space b ≡ false) word
no_space [] h = tt
no_space (b ∷ word) h = (ne_eqb b 32 (λ e. omega (arith, h.0.0, e)), no_space word h.1)

-- words with one space between them are these words
pub slice_split-spaced : (word : List ℕ) (words : List (List ℕ)) → AreVisible word → AllByRecursion AreVisible words → slice_split is_space (spaced (word ∷ words)) ≡ word ∷ words
slice_split-spaced word [] one others =
    ap (slice_split is_space) (append-nil word) ∙ slice_split_none is_space word (All-from_recursion (λ b. is_space b ≡ false) word (no_space word one))
slice_split-spaced word (next ∷ words) one others =
    slice_split_at is_space word 32 (spaced (next ∷ words)) (All-from_recursion (λ b. is_space b ≡ false) word (no_space word one)) refl ∙ ap (λ (ws : List (List ℕ)). word ∷ ws) (slice_split-spaced next words others.0 others.1)

spaced-onto_first : (b : ℕ) (words : List (List ℕ)) → spaced (onto_first b words) ≡ b ∷ spaced words
spaced-onto_first b [] = refl
spaced-onto_first b (word ∷ words) = refl

behind_space : (words : List (List ℕ)) → 0 < length words → flat_map (λ (w : List ℕ). 32 ∷ w) words ≡ 32 ∷ spaced words
behind_space [] some = absurd (omega arith)
behind_space (word ∷ words) some = refl

-- the words of a line, with one space between them, are the line
pub spaced-slice_split : (line : List ℕ) → spaced (slice_split is_space line) ≡ line
spaced-slice_split [] = refl
spaced-slice_split (b ∷ line) =
    elim (cases_Bool (is_space b)) [
      | inl space ↦
          let some : 0 < length (slice_split is_space line) = omega (arith, length-slice_split is_space line) in
          let is : b ≡ 32 = eqb-true b 32 space in
          rw space (behind_space (slice_split is_space line) some ∙ ap (λ (l : List ℕ). 32 ∷ l) (spaced-slice_split line) ∙ ap (λ (x : ℕ). x ∷ line) (sym is))
      | inr other ↦ rw other (spaced-onto_first b (slice_split is_space line) ∙ ap (λ (l : List ℕ). b ∷ l) (spaced-slice_split line))
    ]

-- ---- line feeds

abbrev IsOneLine : List ℕ → Type 0
IsOneLine line = AllByRecursion (λ b. is_feed b ≡ false) line

IsOneLine-append : (a b : List ℕ) → IsOneLine a → IsOneLine b → IsOneLine (a ++ b)
IsOneLine-append [] b p q = q
IsOneLine-append (x ∷ a) b p q = (p.0, IsOneLine-append a b p.1 q)

one_word : (word : List ℕ) → AreVisible word → IsOneLine word
one_word [] h = tt
one_word (b ∷ word) h = (ne_eqb b 10 (λ e. omega (arith, h.0.0, e)), one_word word h.1)

other_words : (words : List (List ℕ)) → AllByRecursion AreVisible words → IsOneLine (flat_map (λ w. 32 ∷ w) words)
other_words [] h = tt
other_words (word ∷ words) h = IsOneLine-append (32 ∷ word) (flat_map (λ w. 32 ∷ w) words) (refl, one_word word h.0) (other_words words h.1)

pub spaced_one_line : (words : List (List ℕ)) → AllByRecursion AreVisible words → IsOneLine (spaced words)
spaced_one_line [] h = tt
spaced_one_line (word ∷ words) h = IsOneLine-append word (flat_map (λ w. 32 ∷ w) words) (one_word word h.0) (other_words words h.1)

-- a line ends at its line feed
pub lines_of-line : (line text : List ℕ) → IsOneLine line → lines_of (line ++ 10 ∷ text) ≡ line ∷ lines_of text
lines_of-line [] text h = refl
lines_of-line (b ∷ line) text h = rw h.0 (ap (onto_first b) (lines_of-line line text h.1))

-- lines, each with its line feed
abbrev pub ended_lines : List (List ℕ) → List ℕ
ended_lines lines = flat_map (λ line. line ++ 10 ∷ []) lines

IsEnded-cons : (b : ℕ) (text ended : List ℕ) → IsEnded text ended → IsEnded (b ∷ text) (b ∷ ended)
IsEnded-cons b text ended (inl e) = inl (ap (λ (t : List ℕ). b ∷ t) e)
IsEnded-cons b text ended (inr e) = inr (ap (λ (t : List ℕ). b ∷ t) e)

empty_ended : (text : List ℕ) → IsEnded text [] → text ≡ []
empty_ended text (inl e) = sym e
empty_ended [] (inr e) = absurd cc
empty_ended (b ∷ text) (inr e) = absurd cc

ended-onto_first : (b : ℕ) (text : List ℕ) (lines : List (List ℕ)) → IsEnded text (ended_lines lines) → IsEnded (b ∷ text) (ended_lines (onto_first b lines))
ended-onto_first b text [] h = inr (ap (λ (t : List ℕ). b ∷ (t ++ 10 ∷ [])) (sym (empty_ended text h)))
ended-onto_first b text (line ∷ lines) h = IsEnded-cons b text (ended_lines (line ∷ lines)) h

-- the lines of a text make it up, but for the last line feed, which may be missing
pub ended_lines-lines_of : (text : List ℕ) → IsEnded text (ended_lines (lines_of text))
ended_lines-lines_of [] = inl refl
ended_lines-lines_of (b ∷ text) =
    elim (cases_Bool (is_feed b)) [
      | inl feed ↦
          let is : b ≡ 10 = eqb-true b 10 feed in
          rw feed (subst (λ (x : ℕ). IsEnded (x ∷ text) (10 ∷ ended_lines (lines_of text))) (sym is) (IsEnded-cons 10 text (ended_lines (lines_of text)) (ended_lines-lines_of text)))
      | inr other ↦ rw other (ended-onto_first b text (lines_of text) (ended_lines-lines_of text))
    ]
