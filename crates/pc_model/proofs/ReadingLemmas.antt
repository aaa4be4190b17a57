-- What is spelled is read back.
use Rattle.std.proofs.Common.{◌≡◌, ℕ, zero, suc, ◌+◌, ◌-◌, ◌*◌, ◌/◌, ◌%◌, ◌^◌, ◌==◌, ◌<◌, ◌≤◌, Bool, true, false, List, [], ◌∷◌, ◌++◌, length, drop, get_or, refl, sym, ap, ◌∙◌, arith, inl, inr, add-one}
use Rattle.std.proofs.lemmas.List.{drop_all, drop_at, drop_more, length-append}
use Rattle.std.proofs.lemmas.List.FromFn.{fill_by_all}
use Rattle.std.proofs.lemmas.List.Sums.{AllPass-from_list_all}
use Rattle.std.proofs.lemmas.Bool.{cases_Bool, eqb-true, le-ltb, lt-ltb, ltb-true}
use Rattle.std.proofs.lemmas.Option.{cond_some}
use Rattle.std.proofs.Math.Nat.{mul-div_cancel_left, mul-mod_right, mul-zero}
use Rattle.std.proofs.Math.Seq.{drop-append-add}
use Rattle.std.proofs.Math.Pow.{pow_mono}
use Rattle.std.specs.List.{flat_map, list_all}
use Rattle.std.specs.declared.option.Option.TheVariants.{Some}
use Rattle.std.specs.declared.result.Result.TheVariants.{Ok}
use Rattle.byteorder.proofs.Bytes.{pow256}
use Rattle.byteorder.specs.Endian.{big_bytes, big_number}
use Rattle.byteorder.specs.Numbers.{big_number-reads_back, length-bytes_high_first}
use Rattle.pc_model.proofs.BytesLemmas.{bits_in-bit_bytes, length-bit_bytes}
use Rattle.pc_model.specs.MapSpelling.{bit_bytes, bitset_spelling, byte_count, number_fits, one_longer, run_lengths, run_lengths_from, run_spelling, spelling_of}
use Rattle.pc_model.specs.MapReading.{bits_in_turn, bitset_reading, letter_reading, map_of, numbers_in, reading_from, run_reading}

-- ---- numbers

-- a number that fits is below the power of its bytes
pub number_fits-lt : (width n : ℕ) → number_fits width n ≡ true → n < 256 ^ width
number_fits-lt width n fits =
    let low = ltb-true n (2 ^ (8 * width - 1)) fits in
    let most : 2 ^ (8 * width - 1) ≤ 2 ^ (8 * width) = pow_mono (omega arith) in
    rw (pow256 width) (omega (arith, low, most))

-- the number in front of bytes
big_number-front : (width n : ℕ) (bytes : List ℕ) → number_fits width n ≡ true → big_number width (big_bytes width n ++ bytes) ≡ n
big_number-front width n bytes fits = big_number-reads_back width n bytes (number_fits-lt width n fits)

-- ---- BitSet

-- the bits of a BitSet are read back
pub bitset_reading-spelling : (width : ℕ) (bits : List Bool) (bytes : List ℕ) → bitset_spelling width bits ≡ Some bytes → bitset_reading width bytes ≡ Ok bits
bitset_reading-spelling width bits bytes is =
    let parts = cond_some (number_fits width (length bits)) _ bytes is in
    let n : ℕ = length bits in
    let len : length (big_bytes width n ++ bit_bytes bits) ≡ width + byte_count n =
    length-append (big_bytes width n) (bit_bytes bits) ∙ rw (length-bytes_high_first width n, length-bit_bytes bits) refl in
    let long = le-ltb (width + byte_count n) width (omega arith) in
    let enough = le-ltb (width + byte_count n) (width + byte_count n) (omega arith) in
    rw (← parts.1, len, long, big_number-front width n (bit_bytes bits) parts.0, parts.0, enough, drop_at (big_bytes width n) (bit_bytes bits) width (length-bytes_high_first width n), bits_in-bit_bytes bits) refl

-- ---- RunLength

-- one more bit in the first run
bits_in_turn-one_longer : (bit : Bool) (lengths : List ℕ) → bits_in_turn bit (one_longer lengths) ≡ bit ∷ bits_in_turn bit lengths
bits_in_turn-one_longer bit [] = refl
bits_in_turn-one_longer bit (n ∷ lengths) = rw (add-one n) refl

-- the bits of the runs are the bits
bits_in_turn-run_lengths_from : (bit : Bool) (bits : List Bool) → bits_in_turn bit (run_lengths_from bit bits) ≡ bits
bits_in_turn-run_lengths_from bit [] = refl
bits_in_turn-run_lengths_from false (false ∷ bits) =
    rw (bits_in_turn-one_longer false (run_lengths_from false bits), bits_in_turn-run_lengths_from false bits) refl
bits_in_turn-run_lengths_from false (true ∷ bits) =
    rw (bits_in_turn-one_longer true (run_lengths_from true bits), bits_in_turn-run_lengths_from true bits) refl
bits_in_turn-run_lengths_from true (true ∷ bits) =
    rw (bits_in_turn-one_longer true (run_lengths_from true bits), bits_in_turn-run_lengths_from true bits) refl
bits_in_turn-run_lengths_from true (false ∷ bits) =
    rw (bits_in_turn-one_longer false (run_lengths_from false bits), bits_in_turn-run_lengths_from false bits) refl

-- so many bytes a number
pub length-flat_map-big_bytes : (width : ℕ) (numbers : List ℕ) → length (flat_map (big_bytes width) numbers) ≡ width * length numbers
length-flat_map-big_bytes width [] = omega arith
length-flat_map-big_bytes width (n ∷ numbers) =
    length-append (big_bytes width n) (flat_map (big_bytes width) numbers)
    ∙ rw (length-bytes_high_first width n, length-flat_map-big_bytes width numbers) (omega arith)

-- the bytes from a number on
drop-flat_map-big_bytes : (width i : ℕ) (numbers : List ℕ) → drop (width * i) (flat_map (big_bytes width) numbers) ≡ flat_map (big_bytes width) (drop i numbers)
drop-flat_map-big_bytes width i [] = drop_all (width * i) [] (omega arith) ∙ sym (ap (flat_map (big_bytes width)) (drop_all i [] (omega arith)))
drop-flat_map-big_bytes width zero (n ∷ numbers) = rw mul-zero refl
drop-flat_map-big_bytes width (suc i) (n ∷ numbers) =
    let place : width * suc i ≡ length (big_bytes width n) + width * i = rw (length-bytes_high_first width n) (omega arith) in
    rw (place, drop-append-add (big_bytes width n) (flat_map (big_bytes width) numbers) (width * i)) (drop-flat_map-big_bytes width i numbers)

-- the numbers in the bytes of numbers
numbers_in-flat_map : (width : ℕ) (numbers : List ℕ) → 0 < width → list_all (number_fits width) numbers ≡ true
    → numbers_in width (flat_map (big_bytes width) numbers) ≡ numbers
numbers_in-flat_map width numbers pos fit =
    let count : length (flat_map (big_bytes width) numbers) / width ≡ length numbers =
    rw (length-flat_map-big_bytes width numbers) (mul-div_cancel_left (length numbers) pos) in
    let each : (k : ℕ) → k < length numbers → get_or numbers k 0 ≡ big_number width (drop (width * k) (flat_map (big_bytes width) numbers)) =
    λ k h. rw (drop-flat_map-big_bytes width k numbers, drop_more numbers k 0 h)
    (sym (big_number-front width (get_or numbers k 0) (flat_map (big_bytes width) (drop (k + 1) numbers)) (AllPass-from_list_all (number_fits width) numbers fit k 0 h))) in
    rw count (sym (fill_by_all (λ (i : ℕ). big_number width (drop (width * i) (flat_map (big_bytes width) numbers))) numbers (length numbers) 0 refl each))

-- the bits of a RunLength are read back
pub run_reading-spelling : (width : ℕ) (bits : List Bool) (bytes : List ℕ) → 0 < width → run_spelling width bits ≡ Some bytes → run_reading width bytes ≡ Ok bits
run_reading-spelling width bits bytes pos is =
    let parts = cond_some (list_all (number_fits width) (run_lengths bits)) _ bytes is in
    let whole : length (flat_map (big_bytes width) (run_lengths bits)) % width ≡ 0 =
    rw (length-flat_map-big_bytes width (run_lengths bits)) (mul-mod_right width (length (run_lengths bits))) in
    rw (← parts.1, numbers_in-flat_map width (run_lengths bits) pos parts.0, parts.0, whole, bits_in_turn-run_lengths_from false bits) refl

-- ---- by letter

-- bits that a base leaves room for
map_of-reading_from : (base : ℕ) (bits : List Bool) → base + length bits < 2 ^ 63 → map_of (reading_from base (Ok bits)) ≡ Ok (Some bits)
map_of-reading_from base bits room = rw (lt-ltb (base + length bits) (2 ^ 63) room) refl

-- the bytes that a letter's spelling gives are read as the same bits
pub letter_reading-spelling_of : (base letter : ℕ) (bits : List Bool) (bytes : List ℕ) → base + length bits < 2 ^ 63 → spelling_of letter bits ≡ Some bytes
    → letter_reading base letter bytes ≡ Ok (Some bits)
unfolding spelling_of
letter_reading-spelling_of base letter bits bytes room is = elim (cases_Bool (letter == 108)) [
  | inl l ↦
      let at : bitset_spelling 2 bits ≡ Some bytes = rw l at is in
      rw (eqb-true letter 108 l, bitset_reading-spelling 2 bits bytes at) (map_of-reading_from base bits room)
  | inr not_l ↦ elim (cases_Bool (letter == 110)) [
    | inl n ↦
        let at : run_spelling 2 bits ≡ Some bytes = rw (not_l, n) at is in
        rw (eqb-true letter 110 n, run_reading-spelling 2 bits bytes (omega arith) at) (map_of-reading_from base bits room)
    | inr not_n ↦ elim (cases_Bool (letter == 111)) [
      | inl o ↦
          let at : bitset_spelling 4 bits ≡ Some bytes = rw (not_l, not_n, o) at is in
          rw (eqb-true letter 111 o, bitset_reading-spelling 4 bits bytes at) (map_of-reading_from base bits room)
      | inr not_o ↦ elim (cases_Bool (letter == 101)) [
        | inl e ↦
            let at : run_spelling 4 bits ≡ Some bytes = rw (not_l, not_n, not_o, e) at is in
            rw (eqb-true letter 101 e, run_reading-spelling 4 bits bytes (omega arith) at) (map_of-reading_from base bits room)
        | inr not_e ↦ let none = rw (not_l, not_n, not_o, not_e) at is in cc none
      ]
    ]
  ]
]
