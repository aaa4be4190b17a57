-- The sizes of the texts of a map, without the texts.
use Rattle.std.specs.Prelude.{ℕ, ◌+◌, ◌*◌, ◌/◌, nat_le, nat_lt, if◌then◌else◌, List, length, Option, Some, None}

-- a letter with the length of its text
abbrev pub sized : ℕ × List ℕ → ℕ × ℕ
sized text = (text.0, length text.1)

-- how many characters the letter and this many bytes have in base64 with padding
abbrev pub character_count : ℕ → ℕ
character_count bytes = 4 * ((bytes + 3) / 3)

-- a letter with the size of its text, where its encoding can hold the bits in this many bytes and
-- the text has at most 4,294,967,294 characters
abbrev pub text_size : ℕ → Option ℕ → Option (ℕ × ℕ)
text_size letter None = None
text_size letter (Some bytes) = if nat_le (character_count bytes) 4294967294
    then Some (letter, character_count bytes) else None

-- the smaller of two sizes, and of two equal ones the first
abbrev pub smaller_size : Option (ℕ × ℕ) → Option (ℕ × ℕ) → Option (ℕ × ℕ)
smaller_size None second = second
smaller_size (Some first) None = Some first
smaller_size (Some first) (Some second) = if nat_lt second.1 first.1 then Some second
    else Some first
