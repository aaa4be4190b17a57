-- Decimals: reading and writing digit by digit, and the two laws.
use Rattle.std.proofs.Common.{◌≡◌, ℕ, ◌+◌, ◌-◌, ◌*◌, ◌/◌, ◌%◌, ◌^◌, ◌<◌, ◌≤◌, Bool, true, false, not, cond, eqb, List, [], ◌∷◌, ◌++◌, length, get_or, take, drop, set, Option, Some, None, refl, sym, ap, ◌∙◌, inl, inr, arith, append_assoc}
use Rattle.std.specs.Char.{is_ascii_digit}
use Rattle.std.specs.Fmt.{decimal}
use Rattle.std.specs.Int.{IsInRange}
use Rattle.std.specs.Option.{SomeIff}
use Rattle.std.specs.Str.{all_ascii_digits}
use Rattle.std.specs.Str.Parse.{AllDigits, digits_value}
use Rattle.std.proofs.lemmas.Bool.{cases_lt, both_ways, not-true, eq-eqb, ne_eqb, ltb-true, lt-ltb, le-leb, leb-true, and_parts, and_from}
use Rattle.std.proofs.lemmas.Int.Digits.{digits_more, digits_value_more}
use Rattle.std.proofs.lemmas.Str.{digit_value_digit}
use Rattle.std.proofs.lemmas.Str.Parse.{IsNumeralModel, digit_at, numerals_by_value, tells_all_ascii_digits, digits_value-take-le}
use Rattle.std.proofs.lemmas.Fmt.{decimal_is_IsNumeral, decimal_digit, decimal_step, first_decimal, decimal-digits_value, length-decimal-le, decimal_nonempty}
use Rattle.std.proofs.lemmas.List.{append-nil, take_all, drop_all, drop-set, length-set, length_push}
use Rattle.std.proofs.lemmas.Option.{cond_some}
use Rattle.pc_lines.specs.Decimal.{is_decimal, number_of}

cond_none : {A : Type 0} (b : Bool) (x : A) → (b ≡ true → ⊥) → cond b (Some x) None ≡ None
cond_none true x never = absurd (never refl)
cond_none false x never = refl

digit_range : (b : ℕ) → is_ascii_digit b ≡ true → IsInRange 48 57 b
digit_range b e = let parts = and_parts _ _ e in (leb-true 48 b parts.0, leb-true b 57 parts.1)

-- ---- reading digit by digit

-- a byte that is no digit stands in the way
pub AllDigits-other : (ds : List ℕ) (i : ℕ) → i < length ds → is_ascii_digit (get_or ds i 0) ≡ false → AllDigits 10 ds → ⊥
AllDigits-other ds i lt other digits =
    let at = digit_at ds i digits lt in
    both_ways _ other (and_from _ _ (le-leb 48 (get_or ds i 0) at.0) (le-leb (get_or ds i 0) 57 at.1))

-- the number of the digits so far
pub record Front (ds : List ℕ) (i n : ℕ) : Type 0 where
  pub digits : AllDigits 10 (take i ds)
  pub value : n ≡ digits_value 10 (take i ds)
  pub small : n < 2 ^ 64

value_more : (ds : List ℕ) (i n : ℕ) → i < length ds → is_ascii_digit (get_or ds i 0) ≡ true → Front ds i n → n * 10 + (get_or ds i 0 - 48) ≡ digits_value 10 (take (i + 1) ds)
value_more ds i n lt digit front = omega (arith, digit_value_digit (get_or ds i 0) (digit_range (get_or ds i 0) digit), digits_value_more 10 ds i lt, front.value)

pub Front-more : (ds : List ℕ) (i n : ℕ) → i < length ds → is_ascii_digit (get_or ds i 0) ≡ true → Front ds i n → n * 10 + (get_or ds i 0 - 48) < 2 ^ 64 → Front ds (i + 1) (n * 10 + (get_or ds i 0 - 48))
Front-more ds i n lt digit front small = record {
  digits = digits_more 10 ds i lt front.digits (omega (arith, digit_value_digit (get_or ds i 0) (digit_range (get_or ds i 0) digit), (digit_range (get_or ds i 0) digit).1));
  value = value_more ds i n lt digit front;
  small = small;
}

-- where the front alone is too large, so is the whole
pub Front-large : (ds : List ℕ) (i n : ℕ) → i < length ds → is_ascii_digit (get_or ds i 0) ≡ true → Front ds i n → (n * 10 + (get_or ds i 0 - 48) < 2 ^ 64 → ⊥) → digits_value 10 ds < 2 ^ 64 → ⊥
Front-large ds i n lt digit front large small = large (omega (arith, value_more ds i n lt digit front, digits_value-take-le 10 ds (i + 1) (omega arith)))

pub Front-all : (ds : List ℕ) (i n : ℕ) → length ds ≤ i → Front ds i n → (AllDigits 10 ds × (digits_value 10 ds < 2 ^ 64)) × (n ≡ digits_value 10 ds)
Front-all ds i n le front =
    let all = take_all i ds le in
    let value = rw all at front.value in
    ((rw all at front.digits, rw (← value) front.small), value)

-- ---- what a decimal is

own : IsNumeralModel (λ ds. all_ascii_digits ds ≡ true) (digits_value 10)
own = numerals_by_value _ tells_all_ascii_digits

-- a 0 stands alone
abbrev StandsAlone : List ℕ → Type 0
StandsAlone word = get_or word 0 0 ≡ 48 → length word ≡ 1

is_decimal-from : (word : List ℕ) → AllDigits 10 word → 0 < length word → StandsAlone word → is_decimal word ≡ true
is_decimal-from [] digits some alone = absurd (omega arith)
is_decimal-from (b ∷ []) digits some alone = (and_parts _ _ (own.from (b ∷ []) digits)).0
is_decimal-from (b ∷ c ∷ rest) digits some alone =
    let other : eqb b 48 ≡ false = ne_eqb b 48 (λ e. absurd (omega (arith, alone e))) in
    and_from _ _ (ap not other) (own.from (b ∷ c ∷ rest) digits)

is_decimal-to : (word : List ℕ) → is_decimal word ≡ true → (all_ascii_digits word ≡ true) × (0 < length word) × StandsAlone word
is_decimal-to [] e = absurd cc
is_decimal-to (b ∷ []) e = (and_from _ _ e refl, omega arith, λ zero. refl)
is_decimal-to (b ∷ c ∷ rest) e =
    let parts = and_parts _ _ e in
    (parts.1, omega arith, λ zero. absurd (both_ways (eqb b 48) (not-true (eqb b 48) parts.0) (eq-eqb b 48 zero)))

-- what is neither empty nor begins with a 0 before another digit has the number of its digits
pub number_of-digits : (word : List ℕ) (r : Option ℕ) → 0 < length word → StandsAlone word → SomeIff r (AllDigits 10 word × (digits_value 10 word < 2 ^ 64)) (digits_value 10 word) → r ≡ number_of word
unfolding number_of
number_of-digits word (Some n) some alone given =
    let test = and_from _ _ (is_decimal-from word given.0.0 some alone) (lt-ltb _ _ given.0.1) in
    rw (test, given.1) refl
number_of-digits word None some alone given =
    sym (cond_none _ (digits_value 10 word) (λ test.
    let parts = and_parts _ _ test in
    given (own.to word (is_decimal-to word parts.0).0, ltb-true _ _ parts.1)))

-- a 0 before another digit
pub number_of-leading_zero : (word : List ℕ) → 1 < length word → get_or word 0 0 ≡ 48 → number_of word ≡ None
unfolding number_of
number_of-leading_zero word long zero =
    cond_none _ (digits_value 10 word) (λ test.
    let alone = (is_decimal-to word (and_parts _ _ test).0).2 zero in
    omega arith)

pub number_of-zero : (word : List ℕ) → length word ≡ 1 → get_or word 0 0 ≡ 48 → number_of word ≡ Some 0
unfolding number_of
number_of-zero [] one zero = absurd (omega arith)
number_of-zero (b ∷ []) one zero = ap (λ (d : ℕ). number_of (d ∷ [])) zero
number_of-zero (b ∷ c ∷ rest) one zero = absurd (omega arith)

pub number_of-empty : number_of [] ≡ None
unfolding number_of
number_of-empty = refl

-- ---- the two laws

decimal_alone : (n : ℕ) → n < 2 ^ 64 → StandsAlone (decimal n)
decimal_alone n small zero =
    elim (cases_lt n 10) [
      | inl one ↦ ap length (decimal_digit n one)
      | inr more ↦ absurd (omega (arith, first_decimal n (omega arith) small))
    ]

-- the number of the decimal of n is n
pub number_of-decimal : (n : ℕ) → n < 2 ^ 64 → number_of (decimal n) ≡ Some n
unfolding number_of
number_of-decimal n small =
    let numeral = decimal_is_IsNumeral n small in
    let test = and_from _ _ (is_decimal-from (decimal n) numeral.0.1 numeral.0.0 (decimal_alone n small)) (lt-ltb (digits_value 10 (decimal n)) (2 ^ 64) (omega (arith, numeral.1))) in
    rw (test, numeral.1) refl

-- a word that has a number is its decimal
pub decimal-number_of : (word : List ℕ) (n : ℕ) → number_of word ≡ Some n → (decimal n ≡ word) × (n < 2 ^ 64)
unfolding number_of
decimal-number_of word n e =
    let found = cond_some _ _ _ e in
    let parts = and_parts _ _ found.0 in
    let spelled = is_decimal-to word parts.0 in
    let small = ltb-true (digits_value 10 word) (2 ^ 64) parts.1 in
    (ap decimal (sym found.1) ∙ decimal-digits_value own word spelled.0 spelled.1 spelled.2 small, rw (← found.1) small)

-- ---- writing digit by digit

-- the digits that are left, and then those that are written
pub record Written (digits : List ℕ) (start left n : ℕ) : Type 0 where
  pub room : length (decimal left) ≤ start
  pub within : start ≤ 20
  pub size : length digits ≡ 20
  pub whole : decimal left ++ drop start digits ≡ decimal n

put_digit : (digits : List ℕ) (start digit : ℕ) → 0 < start → start ≤ length digits → drop (start - 1) (set digits (start - 1) digit) ≡ digit ∷ drop start digits
put_digit digits start digit some within =
    let next : start - 1 + 1 ≡ start = omega arith in
    drop-set digits (start - 1) digit (omega arith) ∙ ap (λ (i : ℕ). digit ∷ drop i digits) next

pub Written-none : (digits : List ℕ) (n : ℕ) → n < 2 ^ 64 → length digits ≡ 20 → Written digits 20 n n
Written-none digits n small size = record {
  room = length-decimal-le 20 n (omega arith) (omega arith) small;
  within = omega arith;
  size = size;
  whole = ap (λ (rest : List ℕ). decimal n ++ rest) (drop_all 20 digits (omega arith)) ∙ append-nil (decimal n);
}

pub Written-more : (digits : List ℕ) (start left n : ℕ) → 10 ≤ left → left < 2 ^ 64 → Written digits start left n → Written (set digits (start - 1) (48 + left % 10)) (start - 1) (left / 10) n
Written-more digits start left n more small w =
    let step = decimal_step left more small in
    let longer = ap length step ∙ length_push (decimal (left / 10)) (48 + left % 10) in
    let digit = 48 + left % 10 in
    let written = put_digit digits start digit (omega (arith, longer, w.room)) (omega (arith, w.within, w.size)) in
    record {
      room = omega (arith, longer, w.room);
      within = omega (arith, w.within);
      size = length-set digits (start - 1) (48 + left % 10) ∙ w.size;
      whole = ap (λ (rest : List ℕ). decimal (left / 10) ++ rest) written ∙ sym (append_assoc (decimal (left / 10)) (digit ∷ []) (drop start digits)) ∙ ap (λ (front : List ℕ). front ++ drop start digits) (sym step) ∙ w.whole;
    }

pub Written-last : (digits : List ℕ) (start left n : ℕ) → left < 10 → Written digits start left n → drop (start - 1) (set digits (start - 1) (48 + left)) ≡ decimal n
Written-last digits start left n one w =
    let alone = decimal_digit left one in
    let some : 0 < start = omega (arith, ap length alone, w.room) in
    put_digit digits start (48 + left) some (omega (arith, w.within, w.size)) ∙ ap (λ (front : List ℕ). front ++ drop start digits) (sym alone) ∙ w.whole

pub Written-some : (digits : List ℕ) (start left n : ℕ) → left < 2 ^ 64 → Written digits start left n → 0 < start
Written-some digits start left n small w = omega (arith, decimal_nonempty left small, w.room)
