-- Fields at the front of a list of bytes: a value and the bytes after it, or why there is none.
use Rattle.std.specs.Prelude.{◌≡◌, ℕ, ◌+◌, ℤ, List, length, take, drop, Result, Ok, Err, nat_lt, if◌then◌else◌}
use Rattle.std.specs.Int.{Width, byte_len, cast_signed}
use Rattle.byteorder.specs.Endian.{big_number}
use Rattle.pc_bytes.specs.declared.fault.ByteFault.{ByteFault}
use Rattle.pc_bytes.specs.declared.fault.ByteFault.TheVariants.{Short, VarintTooLong}

-- where a reader stands, and the bytes from there on
pub record Rest : Type 0 where
  pub place : ℕ
  pub bytes : List ℕ

-- why a field cannot be read: it needs so many bytes, or its number is too long
pub data Gap : Type 0 where
  Needs : ℕ → Gap
  TooLong : Gap

infixl 10 ◌>>=◌
-- a step, and then the next with its value
abbrev pub ◌>>=◌ : {A B E : Type 0} → Result A E → (A → Result B E) → Result B E
(Ok x) >>= f = f x
(Err e) >>= f = Err e

-- n bytes as a number, the highest byte first
abbrev pub number_at : ℕ → List ℕ → Result (ℕ × List ℕ) Gap
number_at n bytes = if nat_lt (length bytes) n then Err (Needs n) else Ok (big_number n bytes, drop n bytes)

-- the same as two's complement of a width
abbrev pub signed_at : Width → List ℕ → Result (ℤ × List ℕ) Gap
signed_at w bytes =
    if nat_lt (length bytes) (byte_len w) then Err (Needs (byte_len w))
    else Ok (cast_signed w (big_number (byte_len w) bytes), drop (byte_len w) bytes)

-- n bytes as they are
abbrev pub part_at : ℕ → List ℕ → Result (List ℕ × List ℕ) Gap
part_at n bytes = if nat_lt (length bytes) n then Err (Needs n) else Ok (take n bytes, drop n bytes)

-- the gap that a fault tells of
abbrev pub gap_of : ByteFault → Gap
gap_of (Short place need) = Needs need
gap_of (VarintTooLong place) = TooLong

-- where a fault's field begins
abbrev pub place_of : ByteFault → ℕ
place_of (Short place need) = place
place_of (VarintTooLong place) = place

-- the fault is why reading failed, at a place
pub record IsFaultAt {A : Type 0} (place : ℕ) (read : Result A Gap) (fault : ByteFault) : Type 0 where
  pub gap : read ≡ Err (gap_of fault)
  pub here : place_of fault ≡ place

-- a reader moved on within its slice
pub record Moves (old new : Rest) : Type 0 where
  pub ends : new.place + length new.bytes ≡ old.place + length old.bytes
