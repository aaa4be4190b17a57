-- Bytes as a word of visible ASCII, and the bytes of such a word.
use Rattle.std.specs.Prelude.{ℕ, Bool, not, ◌&&◌, ◌+◌, ◌-◌, ◌*◌, ◌/◌, ◌%◌, ◌<◌, ◌==◌, nat_le, List, [], ◌∷◌, Option, Some, None, if◌then◌else◌, slice_index}
use Rattle.std.specs.Char.{digit_char, is_ascii_digit}
use Rattle.std.specs.List.{flat_map}

abbrev pub IsBytes : List ℕ → Type 0
IsBytes bytes = (i : ℕ) → slice_index bytes i < 256

-- a visible ASCII character other than the percent sign
abbrev pub is_plain : ℕ → Bool
is_plain b = nat_le 33 b && nat_le b 126 && not (b == 37)

-- a plain byte stands for itself, another is a percent sign and two lower-case hexadecimal digits
abbrev pub escape_of : ℕ → List ℕ
escape_of b = if is_plain b then b ∷ [] else 37 ∷ digit_char (b / 16) ∷ digit_char (b % 16) ∷ []

-- the escaped text of bytes
abbrev pub escaped_of : List ℕ → List ℕ
escaped_of bytes = flat_map escape_of bytes

-- ---- the way back

abbrev pub plain_of : ℕ → Option ℕ
plain_of b = if is_plain b then Some b else None

abbrev pub hex_value : ℕ → Option ℕ
hex_value d =
    if is_ascii_digit d then Some (d - 48)
    else (if nat_le 97 d && nat_le d 102 then Some (d - 87) else None)

-- the byte that two digits stand for, unless it is plain
abbrev pub coded_byte : Option ℕ → Option ℕ → Option ℕ
coded_byte (Some high) (Some low) =
    if is_plain (16 * high + low) then None else Some (16 * high + low)
coded_byte (Some high) None = None
coded_byte None low = None

-- both, or neither
abbrev pub onto : Option ℕ → Option (List ℕ) → Option (List ℕ)
onto (Some b) (Some bytes) = Some (b ∷ bytes)
onto (Some b) None = None
onto None bytes = None

-- the bytes of which a word is the escaped text
unfoldable pub unescaped_of : List ℕ → Option (List ℕ)
unescaped_of [] = Some []
unescaped_of (b ∷ []) = onto (plain_of b) (Some [])
unescaped_of (b ∷ c ∷ []) = onto (plain_of b) (unescaped_of (c ∷ []))
unescaped_of (b ∷ c ∷ d ∷ rest) =
    if b == 37 then onto (coded_byte (hex_value c) (hex_value d)) (unescaped_of rest)
    else onto (plain_of b) (unescaped_of (c ∷ d ∷ rest))
