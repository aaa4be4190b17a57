-- The number that a word spells. The decimal of a number n is std's `decimal n`.
use Rattle.std.specs.Prelude.{ℕ, Bool, false, not, ◌&&◌, ◌^◌, ◌==◌, nat_lt, List, [], ◌∷◌, Option, Some, None, if◌then◌else◌}
use Rattle.std.specs.Char.{is_ascii_digit}
use Rattle.std.specs.Str.{all_ascii_digits}
use Rattle.std.specs.Str.Parse.{digits_value}

-- one digit, or several of which the first is not 0
abbrev pub is_decimal : List ℕ → Bool
is_decimal [] = false
is_decimal (b ∷ []) = is_ascii_digit b
is_decimal (b ∷ c ∷ rest) = not (b == 48) && all_ascii_digits (b ∷ c ∷ rest)

-- the number of a word, where it is one below 2 ^ 64
unfoldable pub number_of : List ℕ → Option ℕ
number_of word =
    if is_decimal word && nat_lt (digits_value 10 word) (2 ^ 64) then Some (digits_value 10 word)
    else None
