-- How a word looks to `clap` and to the definition.
use Rattle.std.proofs.Common.{◌≡◌, ◌∙◌, ◌+◌, ◌⊎◌, inl, inr, ℕ, suc, Bool, true, false, cond, List, [], ◌∷◌, ◌++◌, length, take, drop, Option, Some, None, refl, sym, ap, subst, arith, true≢false}
use Rattle.std.specs.Prelude.{if◌then◌else◌, encode_utf8_all, not, codes, slice_get, nat_eq}
use Rattle.std.specs.List.{after_first, before_first, list_any, position_or_len}
use Rattle.std.proofs.lemmas.Bool.{eqb-true}
use Rattle.std.proofs.lemmas.Str.{IsUtf8-past_char, encodes-chars, encode_ascii}
use Rattle.std.specs.Str.{IsUtf8, bytes_eq, chars}
use Rattle.clap.specs.Lexer.{long_of, short_of}
use Rattle.pc_inputs.specs.Words.{CONFIG, SUMMARY}
use Rattle.clap.specs.Walk.{Text}
use Rattle.pc_inputs.specs.Command.{WordKind, is_hyphened, option_kind, summary_kind}
use Rattle.pc_inputs.specs.Command.WordKind.{Config, Unknown}

-- ---- how a word looks

abbrev pub is_equals : ℕ → Bool
is_equals b = nat_eq b 61

pub record IsEnd (word : Text) : Type 0 where
  pub is : bytes_eq word (codes "--") ≡ true
  pub hyphened : is_hyphened word ≡ true

pub record IsPlain (word : Text) : Type 0 where
  pub not_end : bytes_eq word (codes "--") ≡ false
  pub long : long_of word ≡ None
  pub short : short_of word ≡ None
  pub hyphened : is_hyphened word ≡ false

pub record IsLong (word : Text) : Type 0 where
  pub name : Text
  pub value : Option Text
  pub not_end : bytes_eq word (codes "--") ≡ false
  pub long : long_of word ≡ Some (name, value)
  pub hyphened : is_hyphened word ≡ true
  pub kind : option_kind word ≡ (if bytes_eq CONFIG name then Config value
      else if bytes_eq SUMMARY name then summary_kind value else Unknown)

pub record IsShort (word : Text) : Type 0 where
  pub flags : Text
  pub char : ℕ
  pub not_end : bytes_eq word (codes "--") ≡ false
  pub long : long_of word ≡ None
  pub short : short_of word ≡ Some flags
  pub more : ℕ
  pub long_enough : length flags ≡ suc more
  pub first : slice_get (chars flags) 0 ≡ Some char
  pub hyphened : is_hyphened word ≡ true
  pub kind : option_kind word ≡ Unknown

abbrev pub Looks : Text → Type 0
Looks word = IsEnd word ⊎ (IsPlain word ⊎ (IsLong word ⊎ IsShort word))

pub before-two : (rest : Text) → before_first is_equals (45 ∷ 45 ∷ rest) ≡ 45 ∷ 45 ∷ before_first
    is_equals rest
before-two rest =
    let n = position_or_len is_equals rest in
    let same : 1 + (1 + n) ≡ suc (suc n) = omega arith in
    ap (λ k. take k (45 ∷ 45 ∷ rest)) same

pub after-two : (rest : Text) → after_first is_equals (45 ∷ 45 ∷ rest) ≡ after_first is_equals rest
after-two rest =
    let n = position_or_len is_equals rest in
    let same : (1 + (1 + n)) + 1 ≡ suc (suc (n + 1)) = omega arith in
    ap (λ k. drop k (45 ∷ 45 ∷ rest)) same

abbrev pub kind_by : Bool → Text → Text → WordKind
kind_by valued name value = if bytes_eq (codes "--config") name then Config (if valued then Some
    value else None)
    else if bytes_eq (codes "--summary") name then summary_kind (if valued then Some value else None)
    else Unknown

pub looks-long : (b : ℕ) (rest : Text) → IsLong (45 ∷ 45 ∷ b ∷ rest)
looks-long b rest = record {
  name = before_first is_equals (b ∷ rest);
  value = if list_any is_equals (b ∷ rest) then Some (after_first is_equals (b ∷ rest)) else None;
  not_end = refl;
  long = refl;
  hyphened = refl;
  kind = ap (λ (name : Text). kind_by (list_any is_equals (b ∷ rest)) name (after_first is_equals
      (45 ∷ 45 ∷ b ∷ rest))) (before-two (b ∷ rest))
      ∙ ap (λ (value : Text). kind_by (list_any is_equals (b ∷ rest)) (45 ∷ 45 ∷ before_first
      is_equals (b ∷ rest)) value) (after-two (b ∷ rest));
}

pub first-char : (b : ℕ) (rest : Text) → IsUtf8 (b ∷ rest) → (c : ℕ)
    × (slice_get (chars (b ∷ rest)) 0 ≡ Some c)
first-char b rest text = go (chars (b ∷ rest)) (encodes-chars (b ∷ rest) text)
  where
    go : (cs : List ℕ) → encode_utf8_all cs ≡ b ∷ rest → (c : ℕ) × (slice_get cs 0 ≡ Some c)
    go [] same = cc
    go (c ∷ cs) same = (c, refl)

pub eq-other : (c : ℕ) → nat_eq c 45 ≡ false → nat_eq 45 c ≡ false
eq-other c other = go (nat_eq 45 c) refl
  where
    go : (t : Bool) → nat_eq 45 c ≡ t → nat_eq 45 c ≡ false
    go true is = absurd (true≢false (ap (λ (x : ℕ). nat_eq x 45) (eqb-true 45 c is) ∙ other))
    go false is = is

-- a word of one hyphen and another byte is none of two hyphens
pub other-name : (name : Text) (c : ℕ) (rest : Text) → nat_eq c 45 ≡ false
    → bytes_eq (45 ∷ 45 ∷ name) (before_first is_equals (45 ∷ c ∷ rest)) ≡ false
other-name name c rest other =
    let m = position_or_len is_equals rest in
    let n = position_or_len is_equals (c ∷ rest) in
    let same : 1 + n ≡ suc n = omega arith in
    let same' : 1 + m ≡ suc m = omega arith in
    ap (λ k. bytes_eq (45 ∷ 45 ∷ name) (take k (45 ∷ c ∷ rest))) same
    ∙ go (nat_eq c 61) (eq-other c other)
  where
    go : (t : Bool) → nat_eq 45 c ≡ false
        → bytes_eq (45 ∷ 45 ∷ name) (45 ∷ take (cond (not t) (1 + position_or_len is_equals rest)
        0) (c ∷ rest)) ≡ false
    go true other = refl
    go false other =
        let same : 1 + position_or_len is_equals rest ≡ suc (position_or_len is_equals rest) = omega
        arith in
        ap (λ k. bytes_eq (45 ∷ 45 ∷ name) (45 ∷ take k (c ∷ rest))) same ∙ rw other refl

pub looks-short : (c : ℕ) (rest : Text) → IsUtf8 (45 ∷ c ∷ rest) → nat_eq c 45 ≡ false
    → IsShort (45 ∷ c ∷ rest)
looks-short c rest text other =
    let later : IsUtf8 (c ∷ rest) = IsUtf8-past_char (45 ∷ c ∷ rest) (c ∷ rest) 45 text (ap (λ (l :
    Text). l ++ c ∷ rest) (sym (encode_ascii 45 (omega arith)))) in
    let x = first-char c rest later in
    record {
      flags = c ∷ rest;
      char = x.0;
      not_end = rw other refl;
      long = rw other refl;
      short = rw other refl;
      more = length rest;
      long_enough = refl;
      first = x.1;
      hyphened = refl;
      kind = rw (
        other-name (codes "config") c rest other,
        other-name (codes "summary") c rest other,
      ) refl;
    }

pub looks-two : (c : ℕ) (rest : Text) → IsUtf8 (45 ∷ c ∷ rest) → Looks (45 ∷ c ∷ rest)
looks-two c rest text = go (nat_eq c 45) refl rest text
  where
    go : (t : Bool) → nat_eq c 45 ≡ t → (rest : Text) → IsUtf8 (45 ∷ c ∷ rest)
        → Looks (45 ∷ c ∷ rest)
    go false is rest text = inr (inr (inr (looks-short c rest text is)))
    go true is [] text = inl (record { is = rw is refl; hyphened = refl })
    go true is (b ∷ rest) text = inr (inr (inl (subst (λ (x : ℕ). IsLong (45 ∷ x ∷ b ∷ rest)) (sym
        (eqb-true c 45 is)) (looks-long b rest))))

pub looks : (word : Text) → IsUtf8 word → Looks word
looks [] text = inr (inl (record { not_end = refl; long = refl; short = refl; hyphened = refl }))
looks (b ∷ rest) text = go (nat_eq b 45) refl rest text
  where
    go : (t : Bool) → nat_eq b 45 ≡ t → (rest : Text) → IsUtf8 (b ∷ rest) → Looks (b ∷ rest)
    go false is [] text = inr (inl (record {
      not_end = rw is refl;
      long = rw is refl;
      short = rw is
          refl;
      hyphened = refl;
    }))
    go false is (c ∷ rest) text = inr (inl (record {
      not_end = rw is refl;
      long = rw is refl;
      short
          = rw is refl;
      hyphened = is;
    }))
    go true is [] text = inr (inl (record {
      not_end = rw is refl;
      long = rw is refl;
      short = rw is
          refl;
      hyphened = refl;
    }))
    go true is (c ∷ rest) text =
        let b-is = eqb-true b 45 is in
        subst (λ (x : ℕ). Looks (x ∷ c ∷ rest)) (sym b-is) (looks-two c rest (subst (λ (x : ℕ).
        IsUtf8 (x ∷ c ∷ rest)) b-is text))
