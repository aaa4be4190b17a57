-- The offsets that bits from a base on pass.
use Rattle.std.specs.Prelude.{ℕ, ◌+◌, ◌-◌, ◌&&◌, nat_le, Bool, false, List, [], ◌∷◌, length, slice_index_or, IsErr, Option, Some, None}
use Rattle.base64.specs.Engines.{standard}
use Rattle.base64.specs.GeneralPurpose.{decode_of}

-- the bit of the offset is 1; an offset before the base or after the last bit has none
abbrev pub is_passed : ℕ → List Bool → ℕ → Bool
is_passed base bits offset = nat_le base offset && slice_index_or bits (offset - base) false

-- the offset of the last bit, whichever that is
abbrev pub last_offset : ℕ → List Bool → Option ℕ
last_offset base [] = None
last_offset base (bit ∷ bits) = Some (base + length bits)

-- the text is no base64
abbrev pub IsRefused : List ℕ → Type 0
IsRefused text = IsErr (decode_of standard text)
