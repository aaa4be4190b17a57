-- Escaped text, from its front: what a word's first byte is, and the two laws.
use Rattle.std.proofs.Common.{◌≡◌, ℕ, zero, suc, ◌+◌, ◌-◌, ◌*◌, ◌/◌, ◌%◌, ◌<◌, ◌≤◌, Bool, true, false, cond, eqb, leb, List, [], ◌∷◌, ◌++◌, length, get_or, take, drop, Option, Some, None, refl, sym, ap, subst, ◌∙◌, inl, inr, append_assoc, arith}
use Rattle.std.specs.Prelude.{◌⊎◌, ◌&&◌}
use Rattle.std.specs.Option.{option_map}
use Rattle.std.proofs.lemmas.List.{take_rest, append-nil}
use Rattle.std.proofs.lemmas.Option.{cond_some}
use Rattle.std.specs.Char.{digit_char, is_ascii_digit}
use Rattle.std.proofs.lemmas.Bool.{cases_Bool, cases_lt, and_parts, leb-true, not-true, ne_eqb, eqb-true, lt-ltb, le-ltb, le-leb, lt-leb}
use Rattle.pc_lines.specs.Escape.{IsBytes, is_plain, escape_of, escaped_of, plain_of, hex_value, coded_byte, onto, unescaped_of}

unescaped_of-nil : unescaped_of [] ≡ Some []
unfolding unescaped_of
unescaped_of-nil = refl

unescaped_of-other : (b : ℕ) (rest : List ℕ) → eqb b 37 ≡ false → unescaped_of (b ∷ rest) ≡ onto (plain_of b) (unescaped_of rest)
unfolding unescaped_of
unescaped_of-other b [] e = refl
unescaped_of-other b (c ∷ []) e = refl
unescaped_of-other b (c ∷ d ∷ rest) e = rw e refl

unescaped_of-code : (high low : ℕ) (rest : List ℕ) → unescaped_of (37 ∷ high ∷ low ∷ rest) ≡ onto (coded_byte (hex_value high) (hex_value low)) (unescaped_of rest)
unfolding unescaped_of
unescaped_of-code high low rest = refl

pub unescaped_of-cut : (rest : List ℕ) → length rest < 2 → unescaped_of (37 ∷ rest) ≡ None
unfolding unescaped_of
unescaped_of-cut [] lt = refl
unescaped_of-cut (c ∷ []) lt = refl
unescaped_of-cut (c ∷ d ∷ rest) lt = absurd (omega arith)

pub unescaped_of-at_other : (word : List ℕ) → 0 < length word → (get_or word 0 0 ≡ 37 → ⊥) → unescaped_of word ≡ onto (plain_of (get_or word 0 0)) (unescaped_of (take (length word - 1) (drop 1 word)))
unescaped_of-at_other [] some other = absurd (omega arith)
unescaped_of-at_other (b ∷ rest) some other = rw (take_rest (b ∷ rest) 1) (unescaped_of-other b rest (ne_eqb b 37 other))

pub unescaped_of-at_code : (rest : List ℕ) → 2 ≤ length rest → unescaped_of (37 ∷ rest) ≡ onto (coded_byte (hex_value (get_or rest 0 0)) (hex_value (get_or rest 1 0))) (unescaped_of (drop 2 rest))
unescaped_of-at_code [] long = absurd (omega arith)
unescaped_of-at_code (high ∷ []) long = absurd (omega arith)
unescaped_of-at_code (high ∷ low ∷ rest) long = unescaped_of-code high low rest

-- ---- the loop of `unescape`

pub unescaped_of-end : (rest front : List ℕ) (whole : Option (List ℕ)) → length rest ≡ 0 → option_map (λ (more : List ℕ). front ++ more) (unescaped_of rest) ≡ whole → whole ≡ Some front
unfolding unescaped_of
unescaped_of-end [] front whole none e = sym e ∙ ap Some (append-nil front)
unescaped_of-end (b ∷ rest) front whole none e = absurd (omega arith)

onto-step : (front : List ℕ) (b : ℕ) (read : Option (List ℕ)) → option_map (λ (more : List ℕ). front ++ more) (onto (Some b) read) ≡ option_map (λ (more : List ℕ). (front ++ b ∷ []) ++ more) read
onto-step front b None = refl
onto-step front b (Some more) = ap Some (sym (append_assoc front (b ∷ []) more))

-- ---- the two laws

-- the digit of a number below 16 has that value
hex_value-digit_char : (n : ℕ) → n < 16 → hex_value (digit_char n) ≡ Some n
hex_value-digit_char n lt =
    elim (cases_lt n 10) [
      | inl small ↦
          let back : 48 + n - 48 ≡ n = omega arith in
          rw (lt-ltb n 10 small, le-leb 48 (48 + n) (omega arith), le-leb (48 + n) 57 (omega arith), back) refl
      | inr big ↦
          let back : 87 + n - 87 ≡ n = omega arith in
          rw (le-ltb n 10 big, le-leb 48 (87 + n) (omega arith), lt-leb (87 + n) 57 (omega arith), le-leb 97 (87 + n) (omega arith), le-leb (87 + n) 102 (omega arith), back) refl
    ]

coded_byte-escape : (b : ℕ) → b < 256 → is_plain b ≡ false → coded_byte (hex_value (digit_char (b / 16))) (hex_value (digit_char (b % 16))) ≡ Some b
coded_byte-escape b lt other =
    let high = hex_value-digit_char (b / 16) (omega arith) in
    let low = hex_value-digit_char (b % 16) (omega arith) in
    let whole : 16 * (b / 16) + b % 16 ≡ b = omega arith in
    rw (high, low, whole, other) refl

is_plain-37 : (b : ℕ) → is_plain b ≡ true → eqb b 37 ≡ false
is_plain-37 b e = not-true (eqb b 37) (and_parts _ _ e).1

unescaped_of-front : (b : ℕ) (rest : List ℕ) → b < 256 → unescaped_of (escape_of b ++ rest) ≡ onto (Some b) (unescaped_of rest)
unescaped_of-front b rest lt =
    elim (cases_Bool (is_plain b)) [
      | inl plain ↦
          let front : escape_of b ++ rest ≡ b ∷ rest = rw plain refl in
          let self : plain_of b ≡ Some b = rw plain refl in
          ap unescaped_of front ∙ unescaped_of-other b rest (is_plain-37 b plain) ∙ ap (λ byte. onto byte (unescaped_of rest)) self
      | inr other ↦
          let front : escape_of b ++ rest ≡ 37 ∷ digit_char (b / 16) ∷ digit_char (b % 16) ∷ rest = rw other refl in
          ap unescaped_of front ∙ unescaped_of-code (digit_char (b / 16)) (digit_char (b % 16)) rest ∙ ap (λ byte. onto byte (unescaped_of rest)) (coded_byte-escape b lt other)
    ]

-- what is escaped is read again
pub unescaped_of-escaped_of : (bytes : List ℕ) → IsBytes bytes → unescaped_of (escaped_of bytes) ≡ Some bytes
unescaped_of-escaped_of [] small = unescaped_of-nil
unescaped_of-escaped_of (b ∷ bytes) small = unescaped_of-front b (escaped_of bytes) (small 0) ∙ ap (onto (Some b)) (unescaped_of-escaped_of bytes (λ i. small (suc i)))

-- ---- the other way

some_is : {A : Type 0} {x y : A} → Some x ≡ Some y → x ≡ y
some_is e = cc

none_not_some : {A : Type 0} {x : A} → None ≡ Some x → ⊥
none_not_some e = cc

onto_some : (byte : Option ℕ) (read : Option (List ℕ)) (bytes : List ℕ) → onto byte read ≡ Some bytes → (b : ℕ) × (more : List ℕ) × (byte ≡ Some b) × (read ≡ Some more) × (b ∷ more ≡ bytes)
onto_some None read bytes e = absurd cc
onto_some (Some b) None bytes e = absurd cc
onto_some (Some b) (Some more) bytes e = (b, more, refl, refl, cc)

-- the escape of a byte
record Escapes (b : ℕ) (piece : List ℕ) : Type 0 where
  text : escape_of b ≡ piece
  small : b < 256

plain_byte : (c b : ℕ) → plain_of c ≡ Some b → Escapes b (c ∷ [])
plain_byte c b e =
    let found = cond_some _ _ _ e in
    let plain : is_plain b ≡ true = ap is_plain (sym found.1) ∙ found.0 in
    record {
      text = rw plain (ap (λ (x : ℕ). x ∷ []) (sym found.1));
      small = omega (arith, leb-true b 126 (and_parts _ _ (and_parts _ _ plain).0).1);
    }

chosen : {A : Type 0} (b : Bool) (x : A) (other : Option A) (y : A) → cond b (Some x) other ≡ Some y → ((b ≡ true) × (x ≡ y)) ⊎ (other ≡ Some y)
chosen true x other y e = inl (refl, cc)
chosen false x other y e = inr e

hex_digit : (d v : ℕ) → hex_value d ≡ Some v → (digit_char v ≡ d) × (v < 16)
hex_digit d v e =
    elim (chosen (is_ascii_digit d) (d - 48) (cond (leb 97 d && leb d 102) (Some (d - 87)) None) v e) [
      | inl digit ↦
          let low = leb-true 48 d (and_parts _ _ digit.0).0 in
          let high = leb-true d 57 (and_parts _ _ digit.0).1 in
          (rw (lt-ltb v 10 (omega (arith, digit.1))) (omega (arith, digit.1)), omega (arith, digit.1))
      | inr letter ↦
          let found = cond_some (leb 97 d && leb d 102) (d - 87) v letter in
          let low = leb-true 97 d (and_parts _ _ found.0).0 in
          let high = leb-true d 102 (and_parts _ _ found.0).1 in
          (rw (le-ltb v 10 (omega (arith, found.1))) (omega (arith, found.1)), omega (arith, found.1))
    ]

cond_none_some : {A : Type 0} (b : Bool) (x y : A) → cond b None (Some x) ≡ Some y → (b ≡ false) × (x ≡ y)
cond_none_some true x y e = absurd cc
cond_none_some false x y e = (refl, cc)

coded_some : (high low : Option ℕ) (b : ℕ) → coded_byte high low ≡ Some b → (h : ℕ) × (l : ℕ) × (high ≡ Some h) × (low ≡ Some l) × (is_plain (16 * h + l) ≡ false) × (16 * h + l ≡ b)
coded_some None low b e = absurd cc
coded_some (Some h) None b e = absurd cc
coded_some (Some h) (Some l) b e = let found = cond_none_some _ _ _ e in (h, l, refl, refl, found.0, found.1)

coded : (c d b : ℕ) → coded_byte (hex_value c) (hex_value d) ≡ Some b → Escapes b (37 ∷ c ∷ d ∷ [])
coded c d b e =
    let found = coded_some (hex_value c) (hex_value d) b e in
    let high = hex_digit c found.0 found.2 in
    let low = hex_digit d found.1 found.3 in
    let other : is_plain b ≡ false = ap is_plain (sym found.5) ∙ found.4 in
    let front : b / 16 ≡ found.0 = omega (arith, found.5, low.1) in
    let back : b % 16 ≡ found.1 = omega (arith, found.5, low.1) in
    record {
      text = rw (other, front, back) (ap (λ (x : ℕ). 37 ∷ x ∷ digit_char found.1 ∷ []) high.0 ∙ ap (λ (x : ℕ). 37 ∷ c ∷ x ∷ []) low.0);
      small = omega (arith, found.5, low.1, high.1);
    }

-- a word and its bytes
record Spells (bytes word : List ℕ) : Type 0 where
  text : escaped_of bytes ≡ word
  small : IsBytes bytes

Spells-nil : Spells [] []
Spells-nil = record { text = refl; small = λ i. omega arith }

Spells-more : (b : ℕ) (front more rest : List ℕ) → Escapes b front → Spells more rest → Spells (b ∷ more) (front ++ rest)
Spells-more b front more rest first others = record {
  text = ap (λ (t : List ℕ). t ++ escaped_of more) first.text ∙ ap (λ (t : List ℕ). front ++ t) others.text;
  small = elim [ zero ↦ first.small | suc i ↦ others.small i ];
}

-- the first byte is the one that the front escapes, and the others are those of the rest
spells_onto : (byte : Option ℕ) (front rest bytes : List ℕ) → ((b : ℕ) → byte ≡ Some b → Escapes b front) → ((more : List ℕ) → unescaped_of rest ≡ Some more → Spells more rest) → onto byte (unescaped_of rest) ≡ Some bytes → Spells bytes (front ++ rest)
spells_onto byte front rest bytes first others e =
    let parts = onto_some byte (unescaped_of rest) bytes e in
    subst (λ (all : List ℕ). Spells all (front ++ rest)) parts.4 (Spells-more parts.0 front parts.1 rest (first parts.0 parts.2) (others parts.1 parts.3))

spells_code : (c d : ℕ) (rest bytes : List ℕ) → ((more : List ℕ) → unescaped_of rest ≡ Some more → Spells more rest) → unescaped_of (37 ∷ c ∷ d ∷ rest) ≡ Some bytes → Spells bytes (37 ∷ c ∷ d ∷ rest)
spells_code c d rest bytes others e = spells_onto (coded_byte (hex_value c) (hex_value d)) (37 ∷ c ∷ d ∷ []) rest bytes (coded c d) others (sym (unescaped_of-code c d rest) ∙ e)

spells_other : (b : ℕ) (rest bytes : List ℕ) → eqb b 37 ≡ false → ((more : List ℕ) → unescaped_of rest ≡ Some more → Spells more rest) → unescaped_of (b ∷ rest) ≡ Some bytes → Spells bytes (b ∷ rest)
spells_other b rest bytes other others e = spells_onto (plain_of b) (b ∷ []) rest bytes (plain_byte b) others (sym (unescaped_of-other b rest other) ∙ e)

-- a percent sign with no two digits behind it is not read
spells_short : (b : ℕ) (rest bytes : List ℕ) → length rest < 2 → ((more : List ℕ) → unescaped_of rest ≡ Some more → Spells more rest) → unescaped_of (b ∷ rest) ≡ Some bytes → Spells bytes (b ∷ rest)
spells_short b rest bytes short others e =
    elim (cases_Bool (eqb b 37)) [
      | inl percent ↦
          let is = eqb-true b 37 percent in
          let none : unescaped_of (b ∷ rest) ≡ None = ap (λ (x : ℕ). unescaped_of (x ∷ rest)) is ∙ unescaped_of-cut rest short in
          absurd (none_not_some (sym none ∙ e))
      | inr other ↦ spells_other b rest bytes other others e
    ]

read_spells : (word bytes : List ℕ) → unescaped_of word ≡ Some bytes → Spells bytes word
read_spells [] bytes e = subst (λ (all : List ℕ). Spells all []) (some_is (sym unescaped_of-nil ∙ e)) Spells-nil
read_spells (b ∷ []) bytes e = spells_short b [] bytes (omega arith) (λ more m. read_spells [] more m) e
read_spells (b ∷ c ∷ []) bytes e = spells_short b (c ∷ []) bytes (omega arith) (λ more m. read_spells (c ∷ []) more m) e
read_spells (b ∷ c ∷ d ∷ rest) bytes e =
    elim (cases_Bool (eqb b 37)) [
      | inl percent ↦
          let is = eqb-true b 37 percent in
          subst (λ (x : ℕ). Spells bytes (x ∷ c ∷ d ∷ rest)) (sym is) (spells_code c d rest bytes (λ more m. read_spells rest more m) (rw is at e))
      | inr other ↦ spells_other b (c ∷ d ∷ rest) bytes other (λ more m. read_spells (c ∷ d ∷ rest) more m) e
    ]

-- a word that is read is the escaped text of what it gives
pub escaped_of-unescaped_of : (word bytes : List ℕ) → unescaped_of word ≡ Some bytes → (escaped_of bytes ≡ word) × IsBytes bytes
escaped_of-unescaped_of word bytes e = let s = read_spells word bytes e in (s.text, s.small)
