-- Variable-length numbers: a number made unsigned by zigzag, in groups of seven bits, the low group first.
use Rattle.std.specs.Prelude.{◌≡◌, ◌≤◌, ◌<◌, ◌^◌, ℕ, zero, suc, ◌+◌, ◌*◌, ◌/◌, ◌%◌, ℤ, pos, List, [], ◌∷◌, ◌++◌, length, take, drop, Bool, Result, Ok, Err, nat_lt, nat_le, ◌==◌, if◌then◌else◌}
use Rattle.std.proofs.Common.{negsuc}
use Rattle.std.specs.List.{prefix_len}
use Rattle.pc_bytes.specs.Fields.{Gap, Needs, TooLong, ◌>>=◌}

-- 0, -1, 1, -2 and so on are 0, 1, 2, 3 and so on
abbrev pub zigzag_of : ℤ → ℕ
zigzag_of (pos n) = 2 * n
zigzag_of (negsuc n) = 2 * n + 1

-- the signed number that zigzag made u of
abbrev pub signed_of : ℕ → ℤ
signed_of u = if u % 2 == 0 then pos (u / 2) else negsuc (u / 2)

-- the sum of group i times 128 ^ i, where a byte's group is its low seven bits
abbrev pub unsigned_of : List ℕ → ℕ
unsigned_of [] = 0
unsigned_of (b ∷ bytes) = b % 128 + 128 * unsigned_of bytes

-- the top bit is set, so that another group follows
abbrev pub is_open : ℕ → Bool
is_open b = nat_le 128 b

-- one byte or more, each but the last with its top bit set
abbrev pub IsGroups : List ℕ → Type 0
IsGroups [] = ⊥
IsGroups (b ∷ []) = b < 128
IsGroups (b ∷ c ∷ bytes) = (128 ≤ b) × IsGroups (c ∷ bytes)

-- the bytes are a spelling of n, of at most `most` bytes, and of an unsigned number below `limit`
pub record IsSpelling (most limit : ℕ) (bytes : List ℕ) (n : ℤ) : Type 0 where
  pub groups : IsGroups bytes
  pub short : length bytes ≤ most
  pub fits : unsigned_of bytes < limit
  pub value : unsigned_of bytes ≡ zigzag_of n

-- a spelling of a number of 32 bits
abbrev pub IsVarint : List ℕ → ℤ → Type 0
IsVarint bytes n = IsSpelling 5 (2 ^ 32) bytes n

-- a spelling of a number of 64 bits
abbrev pub IsVarlong : List ℕ → ℤ → Type 0
IsVarlong bytes n = IsSpelling 10 (2 ^ 64) bytes n

-- the bytes are a spelling of x, by that grammar, and then the rest
pub record SpelledBefore {A : Type 0} (IsSpelled : List ℕ → A → Type 0) (bytes : List ℕ) (x : A) (rest : List ℕ) : Type 0 where
  pub text : List ℕ
  pub spelled : IsSpelled text x
  pub parts : bytes ≡ text ++ rest

-- The unsigned number at the front: its bytes go up to the first one with no top bit. It is too long
-- where `most` bytes have it, and where the number is not below `limit`.
unfoldable pub unsigned_at : ℕ → ℕ → List ℕ → Result (ℕ × List ℕ) Gap
unsigned_at most limit bytes =
    let last = prefix_len is_open (take most bytes) in
    if nat_le most last then Err TooLong
    else if nat_le (length bytes) last then Err (Needs (length bytes + 1))
    else if nat_lt (unsigned_of (take (last + 1) bytes)) limit then Ok (unsigned_of (take (last + 1) bytes), drop (last + 1) bytes)
    else Err TooLong

-- the number of 32 bits at the front
unfoldable pub varint_at : List ℕ → Result (ℤ × List ℕ) Gap
varint_at bytes = do
  u ← unsigned_at 5 (2 ^ 32) bytes
  Ok (signed_of u.0, u.1)

-- the number of 64 bits at the front
unfoldable pub varlong_at : List ℕ → Result (ℤ × List ℕ) Gap
varlong_at bytes = do
  u ← unsigned_at 10 (2 ^ 64) bytes
  Ok (signed_of u.0, u.1)

-- The groups of u, the low one first, as few as it has. After `more` groups the last stands.
unfoldable pub groups_of : ℕ → ℕ → List ℕ
groups_of zero u = u ∷ []
groups_of (suc more) u = if nat_lt u 128 then u ∷ [] else (128 + u % 128) ∷ groups_of more (u / 128)

-- the shortest spelling of a number of 32 or 64 bits
unfoldable pub shortest_of : ℤ → List ℕ
shortest_of n = groups_of 9 (zigzag_of n)
