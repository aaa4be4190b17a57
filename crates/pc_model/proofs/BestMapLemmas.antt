-- The best map is read back, and no other text of its bits is shorter.
use Rattle.std.proofs.Common.{◌≡◌, ℕ, zero, suc, ◌+◌, ◌*◌, ◌/◌, ◌^◌, ◌==◌, ◌<◌, ◌≤◌, Bool, true, false, List, [], ◌∷◌, ◌++◌, length, map, replicate, refl, subst, ◌∙◌, arith, inl, inr}
use Rattle.std.proofs.lemmas.List.{length-append, length-replicate}
use Rattle.std.proofs.lemmas.Bool.{cases_Bool, eqb-true, ltb-false, ltb-true}
use Rattle.std.specs.Prelude.{nat_le, nat_lt}
use Rattle.std.proofs.lemmas.Option.{cond_some}
use Rattle.std.specs.List.{flat_map}
use Rattle.std.specs.Option.{IfSome, IsSome, IsSomeAnd}
use Rattle.std.specs.declared.option.Option.{Option}
use Rattle.std.specs.declared.option.Option.TheVariants.{None, Some}
use Rattle.std.specs.declared.result.Result.TheVariants.{Ok}
use Rattle.base64.proofs.EngineFacts.{decode_of-encode_of}
use Rattle.base64.proofs.OnLiterals.{base64_on_literals}
use Rattle.base64.proofs.RoundTrip.{length-encode_symbols}
use Rattle.base64.specs.Engines.{standard}
use Rattle.base64.specs.GeneralPurpose.{IsBytes, decode_of}
use Rattle.base64.specs.Rfc4648.{encode_symbols, padding_len}
use Rattle.byteorder.specs.Endian.{big_bytes}
use Rattle.pc_model.proofs.BytesLemmas.{byte_of-lt}
use Rattle.pc_model.proofs.ReadingLemmas.{letter_reading-spelling_of}
use Rattle.pc_model.specs.MapSpelling.{bit_bytes, bitset_spelling, run_lengths, run_spelling, spelling_of}
use Rattle.pc_model.specs.MapReading.{bytes_reading, letter_reading, map_reading}
use Rattle.pc_model.specs.BestMap.{best_map, limited, map_text, shorter, shortest_text, spelled_text, text_of}

-- ---- the text of bytes

-- the length of a map's text
pub length-map_text : (letter : ℕ) (bytes : List ℕ) → length (map_text letter bytes) ≡ 4 * ((length bytes + 3) / 3)
length-map_text letter bytes =
    let n : ℕ = length (letter ∷ bytes) in
    length-append (encode_symbols standard.encode_table (letter ∷ bytes)) (replicate (padding_len n) 61)
    ∙ rw (length-encode_symbols standard.encode_table (letter ∷ bytes), length-replicate {A = ℕ} (padding_len n) 61) (omega arith)

-- every text reads as what it decodes to
pub map_reading-bytes : (base : ℕ) (text : List ℕ) → map_reading base text ≡ bytes_reading base (decode_of standard text)
unfolding map_reading base64_on_literals
map_reading-bytes base [] = refl
map_reading-bytes base (symbol ∷ text) = refl

-- the text of bytes reads as they do
map_reading-map_text : (base letter : ℕ) (bytes : List ℕ) → IsBytes (letter ∷ bytes) → map_reading base (map_text letter bytes) ≡ letter_reading base letter bytes
map_reading-map_text base letter bytes are =
    map_reading-bytes base (map_text letter bytes) ∙ rw (decode_of-encode_of standard (letter ∷ bytes) refl are) refl

-- ---- spellings are bytes

-- two lists of bytes in one
IsBytes-append : (xs ys : List ℕ) → IsBytes xs → IsBytes ys → IsBytes (xs ++ ys)
IsBytes-append [] ys are_x are_y i = are_y i
IsBytes-append (x ∷ xs) ys are_x are_y zero = are_x 0
IsBytes-append (x ∷ xs) ys are_x are_y (suc i) = IsBytes-append xs ys (λ k. are_x (suc k)) are_y i

-- one more byte
IsBytes-cons : (x : ℕ) (xs : List ℕ) → x < 256 → IsBytes xs → IsBytes (x ∷ xs)
IsBytes-cons x xs small are zero = small
IsBytes-cons x xs small are (suc i) = are i

-- no bytes
IsBytes-nil : IsBytes []
IsBytes-nil i = omega arith

-- a number's bytes are bytes
IsBytes-big_bytes : (width n : ℕ) → IsBytes (big_bytes width n)
IsBytes-big_bytes zero n = IsBytes-nil
IsBytes-big_bytes (suc zero) n = IsBytes-cons _ [] (omega arith) IsBytes-nil
IsBytes-big_bytes (suc (suc width)) n = IsBytes-cons _ (big_bytes (suc width) n) (omega arith) (IsBytes-big_bytes (suc width) n)

-- the bytes of numbers are bytes
IsBytes-flat_map : (width : ℕ) (numbers : List ℕ) → IsBytes (flat_map (big_bytes width) numbers)
IsBytes-flat_map width [] = IsBytes-nil
IsBytes-flat_map width (n ∷ numbers) =
    IsBytes-append (big_bytes width n) (flat_map (big_bytes width) numbers) (IsBytes-big_bytes width n) (IsBytes-flat_map width numbers)

-- a table of bytes
IsBytes-map : (f : ℕ → ℕ) (xs : List ℕ) → ((i : ℕ) → f i < 256) → IsBytes (map f xs)
IsBytes-map f [] small = IsBytes-nil
IsBytes-map f (x ∷ xs) small = IsBytes-cons (f x) (map f xs) (small x) (IsBytes-map f xs small)

-- a BitSet's bytes are bytes
IsBytes-bitset : (width : ℕ) (bits : List Bool) (bytes : List ℕ) → bitset_spelling width bits ≡ Some bytes → IsBytes bytes
IsBytes-bitset width bits bytes is =
    let parts = cond_some _ _ bytes is in
    subst IsBytes parts.1 (IsBytes-append (big_bytes width (length bits)) (bit_bytes bits) (IsBytes-big_bytes width (length bits)) (IsBytes-map _ _ (byte_of-lt bits)))

-- a RunLength's bytes are bytes
IsBytes-run : (width : ℕ) (bits : List Bool) (bytes : List ℕ) → run_spelling width bits ≡ Some bytes → IsBytes bytes
IsBytes-run width bits bytes is =
    let parts = cond_some _ _ bytes is in subst IsBytes parts.1 (IsBytes-flat_map width (run_lengths bits))

-- a letter with a spelling and the bytes of that
IsBytes-spelling_of : (letter : ℕ) (bits : List Bool) (bytes : List ℕ) → spelling_of letter bits ≡ Some bytes → IsBytes (letter ∷ bytes)
unfolding spelling_of
IsBytes-spelling_of letter bits bytes is = elim (cases_Bool (letter == 108)) [
  | inl l ↦
      let same = eqb-true letter 108 l in
      IsBytes-cons letter bytes (omega (arith, same)) (IsBytes-bitset 2 bits bytes (rw l at is))
  | inr not_l ↦ elim (cases_Bool (letter == 110)) [
    | inl n ↦
        let same = eqb-true letter 110 n in
        IsBytes-cons letter bytes (omega (arith, same)) (IsBytes-run 2 bits bytes (rw (not_l, n) at is))
    | inr not_n ↦ elim (cases_Bool (letter == 111)) [
      | inl o ↦
          let same = eqb-true letter 111 o in
          IsBytes-cons letter bytes (omega (arith, same)) (IsBytes-bitset 4 bits bytes (rw (not_l, not_n, o) at is))
      | inr not_o ↦ elim (cases_Bool (letter == 101)) [
        | inl e ↦
            let same = eqb-true letter 101 e in
            IsBytes-cons letter bytes (omega (arith, same)) (IsBytes-run 4 bits bytes (rw (not_l, not_n, not_o, e) at is))
        | inr not_e ↦ let none = rw (not_l, not_n, not_o, not_e) at is in cc none
      ]
    ]
  ]
]

-- the text of a spelling is read as the same bits
map_reading-spelling_of : (base letter : ℕ) (bits : List Bool) (bytes : List ℕ) → base + length bits < 2 ^ 63 → spelling_of letter bits ≡ Some bytes
    → map_reading base (map_text letter bytes) ≡ Ok (Some bits)
map_reading-spelling_of base letter bits bytes room is =
    map_reading-map_text base letter bytes (IsBytes-spelling_of letter bits bytes is) ∙ letter_reading-spelling_of base letter bits bytes room is

-- a letter's text is read as the same bits
map_reading-text_of : (base letter : ℕ) (bits : List Bool) (best : ℕ × List ℕ) → base + length bits < 2 ^ 63 → text_of letter bits ≡ Some best
    → (best.0 ≡ letter) × (map_reading base best.1 ≡ Ok (Some bits))
unfolding text_of
map_reading-text_of base letter bits best room is = go (spelling_of letter bits) refl is where
  go : (spelling : Option (List ℕ)) → spelling_of letter bits ≡ spelling → spelled_text letter spelling ≡ Some best → (best.0 ≡ letter) × (map_reading base best.1 ≡ Ok (Some bits))
  go None spelled is = cc is
  go (Some bytes) spelled is =
      let parts = cond_some _ _ best is in
      let P : ℕ × List ℕ → Type 0 = λ b. (b.0 ≡ letter) × (map_reading base b.1 ≡ Ok (Some bits)) in
      subst P parts.1 (refl, map_reading-spelling_of base letter bits bytes room spelled)

-- ---- the shortest

-- a text of so many characters at most
abbrev pub IsWithin : Option (ℕ × List ℕ) → ℕ → Type 0
IsWithin best n = IsSomeAnd best (λ text. length text.1 ≤ n)

-- the shorter is no longer than the first
IsWithin-first : (first second : Option (ℕ × List ℕ)) (n : ℕ) → IsWithin first n → IsWithin (shorter first second) n
IsWithin-first None second n within = absurd within
IsWithin-first (Some first) None n within = within
IsWithin-first (Some first) (Some second) n within = elim (cases_Bool (nat_lt (length second.1) (length first.1))) [
  | inl less ↦ rw less (omega (arith, ltb-true _ _ less, within))
  | inr not_less ↦ rw not_less within
]

-- the shorter is no longer than the second
IsWithin-second : (first second : Option (ℕ × List ℕ)) (n : ℕ) → IsWithin second n → IsWithin (shorter first second) n
IsWithin-second None second n within = within
IsWithin-second (Some first) None n within = absurd within
IsWithin-second (Some first) (Some second) n within = elim (cases_Bool (nat_lt (length second.1) (length first.1))) [
  | inl less ↦ rw less within
  | inr not_less ↦ rw not_less (omega (arith, ltb-false _ _ not_less, within))
]

-- the size of a limited map is the length of the text
size-limited : (limit n : ℕ) (best : Option (ℕ × List ℕ)) → IsWithin best n → (limited limit best).size ≤ n
size-limited limit n None within = absurd within
size-limited limit n (Some best) within = elim (cases_Bool (nat_le (length best.1) limit)) [
  | inl fits ↦ rw fits within
  | inr not_fits ↦ rw not_fits within
]

-- no other letter has a text
text_of-other : (letter : ℕ) (bits : List Bool) → (letter == 108) ≡ false → (letter == 110) ≡ false → (letter == 111) ≡ false → (letter == 101) ≡ false
    → text_of letter bits ≡ None
unfolding text_of spelling_of
text_of-other letter bits not_l not_n not_o not_e = rw (not_l, not_n, not_o, not_e) refl

-- the text of a letter that is this one
IsWithin-same : (letter other n : ℕ) (bits : List Bool) → (letter == other) ≡ true → IsWithin (text_of letter bits) n → IsWithin (text_of other bits) n
IsWithin-same letter other n bits same within = rw (← eqb-true letter other same) within

-- the shortest text is no longer than that of any letter
IsWithin-shortest_text : (letter n : ℕ) (bits : List Bool) → IsWithin (text_of letter bits) n → IsWithin (shortest_text bits) n
unfolding shortest_text
IsWithin-shortest_text letter n bits within = elim (cases_Bool (letter == 108)) [
  | inl l ↦
      IsWithin-first _ _ n (IsWithin-first _ _ n (IsWithin-first _ _ n (IsWithin-same letter 108 n bits l within)))
  | inr not_l ↦ elim (cases_Bool (letter == 110)) [
    | inl r ↦
        IsWithin-first _ _ n (IsWithin-first _ _ n (IsWithin-second (text_of 108 bits) _ n (IsWithin-same letter 110 n bits r within)))
    | inr not_n ↦ elim (cases_Bool (letter == 111)) [
      | inl o ↦
          IsWithin-first _ _ n (IsWithin-second (shorter (text_of 108 bits) (text_of 110 bits)) _ n (IsWithin-same letter 111 n bits o within))
      | inr not_o ↦ elim (cases_Bool (letter == 101)) [
        | inl e ↦
            IsWithin-second (shorter (shorter (text_of 108 bits) (text_of 110 bits)) (text_of 111 bits)) _ n (IsWithin-same letter 101 n bits e within)
        | inr not_e ↦ absurd (rw (text_of-other letter bits not_l not_n not_o not_e) at within)
      ]
    ]
  ]
]

-- the size of the best map is at most the length of each text of the bits
pub size-best_map : (letter limit : ℕ) (bits : List Bool) (text : ℕ × List ℕ) → text_of letter bits ≡ Some text → (best_map bits limit).size ≤ length text.1
unfolding best_map
size-best_map letter limit [] text is = omega arith
size-best_map letter limit (bit ∷ bits) text is =
    let within : IsWithin (text_of letter (bit ∷ bits)) (length text.1) = rw is (omega arith) in
    size-limited limit (length text.1) (shortest_text (bit ∷ bits)) (IsWithin-shortest_text letter (length text.1) (bit ∷ bits) within)

-- ---- the best map is read back

-- a text, where there is one, is read as the bits
abbrev ReadsBack : ℕ → List Bool → Option (ℕ × List ℕ) → Type 0
ReadsBack base bits best = IfSome best (λ text. map_reading base text.1 ≡ Ok (Some bits))

-- one of two texts that are read back
ReadsBack-shorter : (base : ℕ) (bits : List Bool) (first second : Option (ℕ × List ℕ)) → ReadsBack base bits first → ReadsBack base bits second → ReadsBack base bits (shorter first second)
ReadsBack-shorter base bits None second a b = b
ReadsBack-shorter base bits (Some first) None a b = a
ReadsBack-shorter base bits (Some first) (Some second) a b = elim (cases_Bool (nat_lt (length second.1) (length first.1))) [
  | inl less ↦ rw less b
  | inr not_less ↦ rw not_less a
]

-- the text of a letter is read back
ReadsBack-text_of : (base letter : ℕ) (bits : List Bool) → base + length bits < 2 ^ 63 → ReadsBack base bits (text_of letter bits)
ReadsBack-text_of base letter bits room = go (text_of letter bits) refl where
  go : (best : Option (ℕ × List ℕ)) → text_of letter bits ≡ best → ReadsBack base bits best
  go None is = tt
  go (Some text) is = (map_reading-text_of base letter bits text room is).1

-- the shortest text is read back
ReadsBack-shortest_text : (base : ℕ) (bits : List Bool) → base + length bits < 2 ^ 63 → ReadsBack base bits (shortest_text bits)
unfolding shortest_text
ReadsBack-shortest_text base bits room =
    ReadsBack-shorter base bits _ _ (ReadsBack-shorter base bits _ _ (ReadsBack-shorter base bits _ _ (ReadsBack-text_of base 108 bits room) (ReadsBack-text_of base 110 bits room)) (ReadsBack-text_of base 111 bits room)) (ReadsBack-text_of base 101 bits room)

-- a text that was not left out is read back
limited_reads : (base limit : ℕ) (bits : List Bool) (best : Option (ℕ × List ℕ)) → ReadsBack base bits best → IsSome (limited limit best).letter
    → map_reading base (limited limit best).text ≡ Ok (Some bits)
limited_reads base limit bits None reads some = cc some
limited_reads base limit bits (Some best) reads some = elim (cases_Bool (nat_le (length best.1) limit)) [
  | inl fits ↦ rw fits reads
  | inr not_fits ↦ let none = rw not_fits at some in cc none
]

-- where the best map has a letter its text is read as the bits
pub map_reading-best_map : (base limit : ℕ) (bits : List Bool) → base + length bits < 2 ^ 63 → IsSome (best_map bits limit).letter
    → map_reading base (best_map bits limit).text ≡ Ok (Some bits)
unfolding best_map
map_reading-best_map base limit [] room some = cc some
map_reading-best_map base limit (bit ∷ bits) room some =
    limited_reads base limit (bit ∷ bits) (shortest_text (bit ∷ bits)) (ReadsBack-shortest_text base (bit ∷ bits) room) some
