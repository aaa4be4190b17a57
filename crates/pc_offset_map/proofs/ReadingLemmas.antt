-- The reading of a map by its steps.
use Rattle.std.proofs.Common.{◌≡◌, ◌⊎◌, ℕ, ◌+◌, ◌^◌, ◌==◌, ◌<◌, ◌≤◌, Bool, true, List, [], ◌∷◌, length, refl, sym, ◌∙◌, arith, inl, inr}
use Rattle.std.proofs.lemmas.Bool.{cases_Bool, eqb-true, le-ltb, lt-ltb, ltb-false}
use Rattle.std.proofs.lemmas.List.{nil_from_length}
use Rattle.std.specs.Prelude.{nat_lt}
use Rattle.std.specs.declared.option.Option.TheVariants.{None, Some}
use Rattle.std.specs.declared.result.Result.{Result}
use Rattle.std.specs.declared.result.Result.TheVariants.{Ok, Err}
use Rattle.base64.specs.declared.decode.DecodeError.{DecodeError}
use Rattle.base64.specs.Engines.{standard}
use Rattle.base64.specs.GeneralPurpose.{decode_of}
use Rattle.pc_model.proofs.BestMapLemmas.{map_reading-bytes}
use Rattle.pc_model.specs.declared.bits_fault.BitsFault.{BitsFault}
use Rattle.pc_model.specs.declared.map_fault.MapFault.{MapFault}
use Rattle.pc_model.specs.declared.map_fault.MapFault.TheVariants.{Compressed, NoMemory, NotBase64, PastLastOffset, UnknownLetter}
use Rattle.pc_model.specs.MapReading.{bitset_reading, bytes_reading, is_compressed, letter_reading, map_of, map_reading, reading_from, run_reading}
use Rattle.pc_offset_map.specs.Offsets.{IsRefused}

-- ---- the bytes after a letter

-- a letter gives one fault at each base, or a reading that the base may cut short
letter_cases : (letter : ℕ) (bytes : List ℕ) → ((fault : MapFault) × ((base : ℕ) → letter_reading base letter bytes ≡ Err fault))
    ⊎ ((reading : Result (List Bool) BitsFault) × ((base : ℕ) → letter_reading base letter bytes ≡ map_of (reading_from base reading)))
letter_cases letter bytes = elim (cases_Bool (is_compressed letter)) [
  | inl compressed ↦ inl (Compressed letter, λ base. rw compressed refl)
  | inr plain ↦ elim (cases_Bool (letter == 108)) [
    | inl l ↦ inr (bitset_reading 2 bytes, λ base. rw (plain, l) refl)
    | inr not_l ↦ elim (cases_Bool (letter == 110)) [
      | inl n ↦ inr (run_reading 2 bytes, λ base. rw (plain, not_l, n) refl)
      | inr not_n ↦ elim (cases_Bool (letter == 111)) [
        | inl o ↦ inr (bitset_reading 4 bytes, λ base. rw (plain, not_l, not_n, o) refl)
        | inr not_o ↦ elim (cases_Bool (letter == 101)) [
          | inl e ↦ inr (run_reading 4 bytes, λ base. rw (plain, not_l, not_n, not_o, e) refl)
          | inr not_e ↦ inl (UnknownLetter letter, λ base. rw (plain, not_l, not_n, not_o, not_e) refl)
        ]
      ]
    ]
  ]
]

-- a reading with no base to speak of that has a fault
reading_from-fault : (base : ℕ) (fault : MapFault) (reading : Result (List Bool) BitsFault) → map_of (reading_from 0 reading) ≡ Err fault → map_of (reading_from base reading) ≡ Err fault
reading_from-fault base fault (Err other) is = is
reading_from-fault base fault (Ok bits) is = elim (cases_Bool (nat_lt (0 + length bits) (2 ^ 63))) [
  | inl fits ↦ let wrong = rw fits at is in cc wrong
  | inr past ↦
      let many = ltb-false (0 + length bits) (2 ^ 63) past in
      let past_base = le-ltb (base + length bits) (2 ^ 63) (omega (arith, many)) in
      rw past_base (rw past at is)
]

-- the bits of a reading with no base to speak of
reading_from-bits : (bits : List Bool) (reading : Result (List Bool) BitsFault) → map_of (reading_from 0 reading) ≡ Ok (Some bits) → reading ≡ Ok bits
reading_from-bits bits (Err fault) is = cc is
reading_from-bits bits (Ok other) is = elim (cases_Bool (nat_lt (0 + length other) (2 ^ 63))) [
  | inl fits ↦ let same = rw fits at is in cc same
  | inr past ↦ let wrong = rw past at is in cc wrong
]

-- the fault of the bytes after a letter is that at any base
letter_reading-fault : (base letter : ℕ) (bytes : List ℕ) (fault : MapFault) → letter_reading 0 letter bytes ≡ Err fault → letter_reading base letter bytes ≡ Err fault
letter_reading-fault base letter bytes fault is = elim (letter_cases letter bytes) [
  | inl one ↦ one.1 base ∙ sym (one.1 0) ∙ is
  | inr one ↦ one.1 base ∙ reading_from-fault base fault one.0 (sym (one.1 0) ∙ is)
]

-- the bits after a letter where the base leaves room for them
pub letter_reading-fits : (base letter : ℕ) (bytes : List ℕ) (bits : List Bool) → base + length bits < 2 ^ 63 → letter_reading 0 letter bytes ≡ Ok (Some bits)
    → letter_reading base letter bytes ≡ Ok (Some bits)
letter_reading-fits base letter bytes bits room is = elim (letter_cases letter bytes) [
  | inl one ↦ let wrong = sym (one.1 0) ∙ is in cc wrong
  | inr one ↦
      let reading = reading_from-bits bits one.0 (sym (one.1 0) ∙ is) in
      one.1 base ∙ rw (reading, lt-ltb (base + length bits) (2 ^ 63) room) refl
]

-- the bits after a letter where the base leaves no room for them
pub letter_reading-past : (base letter : ℕ) (bytes : List ℕ) (bits : List Bool) → 2 ^ 63 ≤ base + length bits → letter_reading 0 letter bytes ≡ Ok (Some bits)
    → letter_reading base letter bytes ≡ Err PastLastOffset
letter_reading-past base letter bytes bits past is = elim (letter_cases letter bytes) [
  | inl one ↦ let wrong = sym (one.1 0) ∙ is in cc wrong
  | inr one ↦
      let reading = reading_from-bits bits one.0 (sym (one.1 0) ∙ is) in
      one.1 base ∙ rw (reading, le-ltb (base + length bits) (2 ^ 63) past) refl
]

-- ---- the text

-- a text of base64 is read as its bytes
pub map_reading-decoded : (base letter : ℕ) (text bytes : List ℕ) → decode_of standard text ≡ Ok (letter ∷ bytes) → map_reading base text ≡ letter_reading base letter bytes
map_reading-decoded base letter text bytes is = map_reading-bytes base text ∙ rw is refl

-- a text of no bytes is no map
pub map_reading-no_bytes : (base : ℕ) (text : List ℕ) → decode_of standard text ≡ Ok [] → map_reading base text ≡ Ok None
map_reading-no_bytes base text is = map_reading-bytes base text ∙ rw is refl

-- the empty text is no map
pub map_reading-empty : (base : ℕ) (text : List ℕ) → (length text == 0) ≡ true → map_reading base text ≡ Ok None
unfolding map_reading
map_reading-empty base text is = rw (nil_from_length text (eqb-true (length text) 0 is)) refl

-- a text that is no base64
pub map_reading-refused : (base : ℕ) (text : List ℕ) (fault : MapFault) → (fault ≡ NoMemory) ⊎ ((fault ≡ NotBase64) × IsRefused text)
    → (fault ≡ NoMemory) ⊎ (map_reading base text ≡ Err fault)
map_reading-refused base text fault (inl none) = inl none
map_reading-refused base text fault (inr why) = inr (map_reading-bytes base text ∙ rw why.0 (go (decode_of standard text) refl)) where
  go : (decoded : Result (List ℕ) DecodeError) → decode_of standard text ≡ decoded → bytes_reading base (decode_of standard text) ≡ Err NotBase64
  go (Ok bytes) is = let wrong = rw is at why.1 in cc wrong
  go (Err error) is = rw is refl

-- a fault after the letter
pub map_reading-fault : (base letter : ℕ) (text bytes : List ℕ) (fault : MapFault) → decode_of standard text ≡ Ok (letter ∷ bytes) → (fault ≡ NoMemory) ⊎ (letter_reading 0 letter bytes ≡ Err fault)
    → (fault ≡ NoMemory) ⊎ (map_reading base text ≡ Err fault)
map_reading-fault base letter text bytes fault is (inl none) = inl none
map_reading-fault base letter text bytes fault is (inr why) =
    inr (map_reading-decoded base letter text bytes is ∙ letter_reading-fault base letter bytes fault why)
