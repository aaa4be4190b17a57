-- Lemmas on the groups of a variable-length number.
use Rattle.std.proofs.Common.{◌≡◌, ℕ, zero, suc, ◌+◌, ◌*◌, ◌%◌, ◌^◌, ◌<◌, ◌≤◌, List, [], ◌∷◌, length, get_or, take, length-take, sym, arith, add-one}
use Rattle.std.proofs.Math.Nat.{mul-le-mul, pow-le-pow_right, pow-succ'}
use Rattle.pc_bytes.specs.Varint.{unsigned_of}

-- the weight of a group
weight-le : (i : ℕ) → i < 10 → 128 ^ i ≤ 2 ^ 63
weight-le i h = let le : i ≤ 9 = omega arith in pow-le-pow_right {n = 128} (omega arith) le

-- a group at its weight
group-le : (b i : ℕ) → i < 10 → b % 128 * 128 ^ i ≤ 2 ^ 70
group-le b i h =
    let low : b % 128 ≤ 128 = omega arith in
    mul-le-mul low (weight-le i h)

-- one more group
unsigned_of-take_suc : (bytes : List ℕ) (i : ℕ) → i < length bytes → unsigned_of (take (suc i) bytes) ≡ unsigned_of (take i bytes) + get_or bytes i 0 % 128 * 128 ^ i
unsigned_of-take_suc [] i h = absurd (omega arith)
unsigned_of-take_suc (b ∷ bytes) zero h = omega arith
unsigned_of-take_suc (b ∷ bytes) (suc i) h =
    let more = unsigned_of-take_suc bytes i (omega arith) in
    rw more (rw (pow-succ' 128 i) (omega arith))

unsigned_of-take_more : (bytes : List ℕ) (i : ℕ) → i < length bytes → unsigned_of (take (i + 1) bytes) ≡ unsigned_of (take i bytes) + get_or bytes i 0 % 128 * 128 ^ i
unsigned_of-take_more bytes i h = rw add-one (unsigned_of-take_suc bytes i h)

-- groups stand for less than the next weight
pub unsigned_of-lt : (bytes : List ℕ) → unsigned_of bytes < 128 ^ length bytes
unsigned_of-lt [] = omega arith
unsigned_of-lt (b ∷ bytes) = let rest = unsigned_of-lt bytes in grind (arith, rest)

-- the groups so far, of ten at most
sum-le : (bytes : List ℕ) (i : ℕ) → i < 10 → unsigned_of (take i bytes) ≤ 2 ^ 63
sum-le bytes i h =
    let below = unsigned_of-lt (take i bytes) in
    let count : length (take i bytes) ≤ 9 = omega (arith, length-take i bytes) in
    let top : 128 ^ length (take i bytes) ≤ 128 ^ 9 = pow-le-pow_right {n = 128} (omega arith) count in
    omega arith

-- the sum with one more group
pub step-lt : (bytes : List ℕ) (i sum weight x : ℕ) → i < length bytes → length bytes ≤ 10 → sum ≡ unsigned_of (take i bytes) → weight ≡ 128 ^ i → x ≡ get_or bytes i 0 % 128 → sum + x * weight < 2 ^ 128
step-lt bytes i sum weight x lt le sum-is weight-is x-is =
    let so_far = sum-le bytes i (omega arith) in
    let group = group-le (get_or bytes i 0) i (omega arith) in
    rw (sum-is, weight-is, x-is) (omega arith)

pub step-is : (bytes : List ℕ) (i sum weight x : ℕ) → i < length bytes → sum ≡ unsigned_of (take i bytes) → weight ≡ 128 ^ i → x ≡ get_or bytes i 0 % 128 → sum + x * weight ≡ unsigned_of (take (i + 1) bytes)
step-is bytes i sum weight x lt sum-is weight-is x-is =
    rw (sum-is, weight-is, x-is) (sym (unsigned_of-take_more bytes i lt))
