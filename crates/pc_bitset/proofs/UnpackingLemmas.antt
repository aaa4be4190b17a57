-- Bits taken out of bytes.
use Rattle.std.proofs.Common.{◌≡◌, ◌⊎◌, ℕ, zero, suc, ◌+◌, ◌-◌, ◌*◌, ◌/◌, ◌%◌, ◌^◌, ◌==◌, ◌<◌, ◌≤◌, min, Bool, true, false, List, [], ◌∷◌, ◌++◌, length, take, drop, map, replicate, slice_index, bit_and, refl, sym, ap, subst, ◌∙◌, arith, inl, inr, add-zero}
use Rattle.std.proofs.lemmas.List.{append_assoc, get_or_past, length-append, length-drop, length-replicate, take-replicate}
use Rattle.std.proofs.lemmas.List.FromFn.{length-map-range_with_len, map-range_with_len_more, take-map-range_with_len}
use Rattle.std.proofs.lemmas.Bool.{le-ltb, lt-ltb, cases_Bool, ltb-false, ltb-true}
use Rattle.std.proofs.lemmas.Nat.Bits.{shr_and_one}
use Rattle.std.proofs.Math.Nat.{zero-div}
use Rattle.std.proofs.Math.Pow.{pow_mono}
use Rattle.std.specs.List.{range_with_len}
use Rattle.std.specs.Prelude.{nat_lt}
use Rattle.std.specs.declared.result.Result.TheVariants.{Ok, Err}
use Rattle.byteorder.specs.Endian.{big_number}
use Rattle.pc_model.proofs.Tables.{table-append, table_const, table_const_below, table_same}
use Rattle.pc_model.specs.MapReading.{bits_in, bitset_reading, is_bit, reading_from}
use Rattle.pc_model.specs.MapSpelling.{byte_count, number_fits}
use Rattle.pc_bitset.specs.Number.{number_reading}
use Rattle.pc_bitset.specs.Packing.{byte_bits}

-- ---- one byte

-- so many bits
pub length-byte_bits : (n byte : ℕ) → length (byte_bits n byte) ≡ n
length-byte_bits n byte = length-map-range_with_len (λ i. (byte / 2 ^ i) % 2 == 1) 0 n

-- one more bit
pub byte_bits-push : (i byte : ℕ) (first bits new : List Bool) → bits ≡ first ++ byte_bits i byte → new ≡ bits ++ replicate 1 (bit_and (byte / 2 ^ i) 1 == 1)
    → new ≡ first ++ byte_bits (i + 1) byte
byte_bits-push i byte first bits new is more =
    more ∙ rw (is, shr_and_one byte i, append_assoc, map-range_with_len_more (λ k. (byte / 2 ^ k) % 2 == 1) 0 i i (omega arith)) refl

-- no bit is 1
pub byte_bits-none : (n : ℕ) → byte_bits n 0 ≡ replicate n false
byte_bits-none n = table_const (λ i. (0 / 2 ^ i) % 2 == 1) false 0 n (λ i h. rw (zero-div (2 ^ i)) refl)

-- each bit is 1
pub byte_bits-all : (n : ℕ) → n ≤ 8 → byte_bits n 255 ≡ replicate n true
byte_bits-all n few =
    let eight : byte_bits 8 255 ≡ replicate 8 true = refl in
    sym (take-map-range_with_len (λ i. (255 / 2 ^ i) % 2 == 1) 0 8 n few) ∙ ap (take n) eight ∙ take-replicate n 8 true few

-- ---- many bytes

-- the bits of one more byte
pub bits_in-more : (count k n : ℕ) (bytes : List ℕ) (bits new : List Bool) → k < length bytes → length bytes ≤ byte_count count → bits ≡ bits_in (min (8 * k) count) bytes
    → n ≡ min (count - length bits) 8 → new ≡ bits ++ byte_bits n (slice_index bytes k) → new ≡ bits_in (min (8 * (k + 1)) count) bytes
bits_in-more count k n bytes bits new within needed is some more =
    let whole : min (8 * k) count ≡ 8 * k = omega arith in
    let len : length bits ≡ 8 * k = rw (is, whole) (length-map-range_with_len (is_bit bytes) 0 (8 * k)) in
    let next : min (8 * (k + 1)) count ≡ 8 * k + n = omega arith in
    let byte : byte_bits n (slice_index bytes k) ≡ map (is_bit bytes) (range_with_len (0 + 8 * k) n) =
    table_same (λ i. (slice_index bytes k / 2 ^ i) % 2 == 1) (is_bit bytes) 0 (0 + 8 * k) n (λ i h.
    let at : (0 + 8 * k + i) / 8 ≡ k = omega arith in
    let in_byte : (0 + 8 * k + i) % 8 ≡ i = omega arith in
    let from_zero : 0 + i ≡ i = omega arith in
    rw (at, in_byte, from_zero) refl) in
    more ∙ rw (is, whole, next, table-append (is_bit bytes) 0 (8 * k) n, byte) refl

-- the bits that are missing
pub bits_in-missing : (count k : ℕ) (bytes : List ℕ) (bits new : List Bool) → length bytes ≤ k → bits ≡ bits_in (min (8 * k) count) bytes
    → new ≡ bits ++ replicate (count - length bits) false → new ≡ bits_in count bytes
bits_in-missing count k bytes bits new past is more =
    let m : ℕ = min (8 * k) count in
    let len : length bits ≡ m = rw is (length-map-range_with_len (is_bit bytes) 0 m) in
    let sum : m + (count - m) ≡ count = omega arith in
    let none : map (is_bit bytes) (range_with_len (0 + m) (count - m)) ≡ replicate (count - m) false =
    table_const_below (is_bit bytes) false (0 + m) (count - m) (λ p low high.
    let byte : slice_index bytes (p / 8) ≡ 0 = get_or_past bytes (p / 8) 0 (omega arith) in
    rw (byte, zero-div (2 ^ (p % 8))) refl) in
    let all : bits_in (m + (count - m)) bytes ≡ bits_in m bytes ++ replicate (count - m) false = table-append (is_bit bytes) 0 m (count - m) ∙ rw none refl in
    more ∙ rw (len, is) (sym all) ∙ ap (λ (c : ℕ). bits_in c bytes) sum

-- the bits so far are not more than there are
pub length-bits_in_min : (count k : ℕ) (bytes : List ℕ) (bits : List Bool) → bits ≡ bits_in (min (8 * k) count) bytes → length bits ≤ count
length-bits_in_min count k bytes bits is =
    let len : length bits ≡ min (8 * k) count = rw is (length-map-range_with_len (is_bit bytes) 0 (min (8 * k) count)) in
    omega arith

-- ---- a whole reading

-- what a number that was read tells
number_reading-ok : (width n : ℕ) (bytes : List ℕ) → number_reading width bytes ≡ Ok n
    → (width ≤ length bytes) × (number_fits width (big_number width bytes) ≡ true) × (big_number width bytes ≡ n)
number_reading-ok width n bytes is = elim (cases_Bool (nat_lt (length bytes) width)) [
  | inl short ↦ let wrong = rw short at is in cc wrong
  | inr long ↦ elim (cases_Bool (number_fits width (big_number width bytes))) [
    | inl fits ↦ let same = rw (long, fits) at is in (ltb-false (length bytes) width long, fits, cc same)
    | inr negative ↦ let wrong = rw (long, negative) at is in cc wrong
  ]
]

-- a number that was read fits
number_reading-small : (width n : ℕ) (bytes : List ℕ) → width ≤ 4 → number_reading width bytes ≡ Ok n → n < 2 ^ 31
number_reading-small width n bytes few is =
    let parts = number_reading-ok width n bytes is in
    let low = ltb-true (big_number width bytes) (2 ^ (8 * width - 1)) parts.1 in
    let most : 2 ^ (8 * width - 1) ≤ 2 ^ 31 = pow_mono {j = 31} (omega arith) in
    omega (arith, parts.2, low, most)

-- the number with its bits is what the bytes are read as
pub bitset_reading-ok : (width n : ℕ) (bytes : List ℕ) (bits : List Bool) → width ≤ 4 → number_reading width bytes ≡ Ok n → length (drop width bytes) ≤ byte_count n
    → bits ≡ bits_in n (drop width bytes) → reading_from 0 (bitset_reading width bytes) ≡ Ok bits
bitset_reading-ok width n bytes bits few is needed are =
    let parts = number_reading-ok width n bytes is in
    let small = number_reading-small width n bytes few is in
    let rest = length-drop width bytes in
    let enough : nat_lt (width + byte_count n) (length bytes) ≡ false = le-ltb (width + byte_count n) (length bytes) (omega (arith, parts.0, rest)) in
    let len = length-map-range_with_len (is_bit (drop width bytes)) 0 n in
    let room : nat_lt (0 + length (bits_in n (drop width bytes))) (2 ^ 63) ≡ true = lt-ltb (0 + length (bits_in n (drop width bytes))) (2 ^ 63) (omega (arith, len, small)) in
    rw (le-ltb (length bytes) width parts.0, parts.1, parts.2, enough, room, are) refl
