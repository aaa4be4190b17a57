-- The bits in bytes.
use Rattle.std.proofs.Common.{◌≡◌, ℕ, zero, suc, ◌+◌, ◌*◌, ◌/◌, ◌%◌, ◌^◌, ◌==◌, ◌<◌, ◌≤◌, Bool, true, false, List, [], ◌∷◌, ◌++◌, length, take, drop, map, replicate, get_or, slice_index, refl, sym, arith}
use Rattle.std.proofs.lemmas.List.{drop-append-le, get_or-drop, get_or-take, length-append, length-drop, length-take, take-append-le, take_all}
use Rattle.std.proofs.lemmas.List.FromFn.{fill_by_all, get_or-map-range_with_len, length-map-range_with_len}
use Rattle.std.proofs.Math.Nat.{div-div-eq-div-mul, pow-succ', zero-div}
use Rattle.std.proofs.Math.Pow.{pow_mono}
use Rattle.std.proofs.Math.Seq.{drop-append-add}
use Rattle.std.specs.List.{range_with_len}
use Rattle.pc_model.proofs.Tables.{table-append, table_same}
use Rattle.pc_model.specs.MapSpelling.{bit_bytes, byte_count, byte_of, low_first}
use Rattle.pc_model.specs.MapReading.{bits_in, is_bit}

-- ---- low_first

-- bits after others count so many times more
pub low_first-append : (xs ys : List Bool) → low_first (xs ++ ys) ≡ low_first xs + 2 ^ length xs * low_first ys
low_first-append [] ys = omega arith
low_first-append (x ∷ xs) ys =
    rw (low_first-append xs ys, pow-succ' 2 (length xs)) (omega arith)

-- so many bits make a number below that power of 2
pub low_first-lt : (xs : List Bool) → low_first xs < 2 ^ length xs
low_first-lt [] = omega arith
low_first-lt (true ∷ xs) = rw (pow-succ' 2 (length xs)) (omega (arith, low_first-lt xs))
low_first-lt (false ∷ xs) = rw (pow-succ' 2 (length xs)) (omega (arith, low_first-lt xs))

-- 1 bits make the greatest such number
pub low_first-true : (n : ℕ) → low_first (replicate n true) + 1 ≡ 2 ^ n
low_first-true zero = refl
low_first-true (suc n) = rw (pow-succ' 2 n) (omega (arith, low_first-true n))

-- 0 bits make 0
pub low_first-false : (n : ℕ) → low_first (replicate n false) ≡ 0
low_first-false zero = refl
low_first-false (suc n) = rw (low_first-false n) refl

-- the bit at a place, by division
bit_of-low_first : (bits : List Bool) (place : ℕ) → ((low_first bits / 2 ^ place) % 2 == 1) ≡ get_or bits place false
bit_of-low_first [] place = rw (zero-div (2 ^ place)) refl
bit_of-low_first (true ∷ bits) zero =
    let odd : ((1 + 2 * low_first bits) / 1) % 2 ≡ 1 = omega arith in
    rw odd refl
bit_of-low_first (false ∷ bits) zero =
    let even : ((0 + 2 * low_first bits) / 1) % 2 ≡ 0 = omega arith in
    rw even refl
bit_of-low_first (true ∷ bits) (suc place) =
    let half : (1 + 2 * low_first bits) / 2 ≡ low_first bits = omega arith in
    rw (pow-succ' 2 place, ← div-div-eq-div-mul (1 + 2 * low_first bits) 2 (2 ^ place), half) (bit_of-low_first bits place)
bit_of-low_first (false ∷ bits) (suc place) =
    let half : (0 + 2 * low_first bits) / 2 ≡ low_first bits = omega arith in
    rw (pow-succ' 2 place, ← div-div-eq-div-mul (0 + 2 * low_first bits) 2 (2 ^ place), half) (bit_of-low_first bits place)

-- ---- bit_bytes

-- the number of bytes
pub length-bit_bytes : (bits : List Bool) → length (bit_bytes bits) ≡ byte_count (length bits)
length-bit_bytes bits = length-map-range_with_len (byte_of bits) 0 (byte_count (length bits))

-- a byte is below 256
pub byte_of-lt : (bits : List Bool) (i : ℕ) → byte_of bits i < 256
byte_of-lt bits i =
    let few = length-take 8 (drop (8 * i) bits) in
    let low = low_first-lt (take 8 (drop (8 * i) bits)) in
    let most : 2 ^ length (take 8 (drop (8 * i) bits)) ≤ 2 ^ 8 = pow_mono {j = 8} (omega (arith, few)) in
    omega (arith, low, most)

-- bits after whole bytes are bytes after them
pub bit_bytes-append : (m : ℕ) (xs ys : List Bool) → length xs ≡ 8 * m → bit_bytes (xs ++ ys) ≡ bit_bytes xs ++ bit_bytes ys
bit_bytes-append m xs ys whole =
    let count : byte_count (length (xs ++ ys)) ≡ m + byte_count (length ys) = rw (length-append xs ys, whole) (omega arith) in
    let front_count : byte_count (length xs) ≡ m = rw whole (omega arith) in
    let front : map (byte_of (xs ++ ys)) (range_with_len 0 m) ≡ map (byte_of xs) (range_with_len 0 m) =
    table_same (byte_of (xs ++ ys)) (byte_of xs) 0 0 m (λ i h.
    let len = length-drop (8 * (0 + i)) xs in
    rw (drop-append-le (8 * (0 + i)) xs ys (omega (arith, whole)), take-append-le 8 (drop (8 * (0 + i)) xs) ys (omega (arith, whole, len))) refl) in
    let back : map (byte_of (xs ++ ys)) (range_with_len (0 + m) (byte_count (length ys))) ≡ map (byte_of ys) (range_with_len 0 (byte_count (length ys))) =
    table_same (byte_of (xs ++ ys)) (byte_of ys) (0 + m) 0 (byte_count (length ys)) (λ i h.
    let place : 8 * (0 + m + i) ≡ length xs + 8 * (0 + i) = omega (arith, whole) in
    rw (place, drop-append-add xs ys (8 * (0 + i))) refl) in
    rw (count, front_count, table-append (byte_of (xs ++ ys)) 0 m (byte_count (length ys)), front, back) refl

-- at most eight bits are one byte
pub bit_bytes-byte : (bits : List Bool) → 0 < length bits → length bits ≤ 8 → bit_bytes bits ≡ low_first bits ∷ []
bit_bytes-byte bits some few =
    let count : byte_count (length bits) ≡ 1 = omega arith in
    rw (count, take_all 8 bits few) refl

-- the bit at a place of the bytes
is_bit-bit_bytes : (bits : List Bool) (place : ℕ) → place < length bits → is_bit (bit_bytes bits) place ≡ get_or bits place false
is_bit-bit_bytes bits place within =
    let byte : slice_index (bit_bytes bits) (place / 8) ≡ byte_of bits (place / 8) =
    get_or-map-range_with_len (byte_of bits) 0 (byte_count (length bits)) (place / 8) (place / 8) 0 (omega arith) (omega arith) in
    let at : 8 * (place / 8) + place % 8 ≡ place = omega arith in
    rw (byte, bit_of-low_first (take 8 (drop (8 * (place / 8)) bits)) (place % 8), get_or-take 8 (drop (8 * (place / 8)) bits) (place % 8) false (omega arith), get_or-drop (8 * (place / 8)) bits (place % 8) false, at) refl

-- the bits in the bytes are the bits
pub bits_in-bit_bytes : (bits : List Bool) → bits_in (length bits) (bit_bytes bits) ≡ bits
bits_in-bit_bytes bits =
    sym (fill_by_all (is_bit (bit_bytes bits)) bits (length bits) false refl (λ k h. sym (is_bit-bit_bytes bits k h)))
