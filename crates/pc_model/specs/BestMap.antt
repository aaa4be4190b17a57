-- The best map of completion bits: the shortest text among the encodings that can hold them.
use Rattle.std.specs.Prelude.{ℕ, ◌*◌, nat_le, nat_lt, Bool, if◌then◌else◌, List, [], ◌∷◌, length, Option, Some, None}
use Rattle.base64.specs.Engines.{standard}
use Rattle.base64.specs.GeneralPurpose.{encode_of}
use Rattle.pc_model.specs.declared.map_letter.TheConstants.{BITSET, BITSET_2, RUN_LENGTH, RUN_LENGTH_2}
use Rattle.pc_model.specs.MapSpelling.{spelling_of}

-- a map as a commit holds it: its letter where the text is not empty, the text, and the size of the
-- shortest text
pub record BestMap : Type 0 where
  pub letter : Option ℕ
  pub text : List ℕ
  pub size : ℕ

-- the text of a map's bytes: base64 with padding (RFC 4648, section 4)
abbrev pub map_text : ℕ → List ℕ → List ℕ
map_text letter bytes = encode_of standard (letter ∷ bytes)

-- a letter with its text, unless that has more than 4,294,967,294 characters
abbrev pub short_enough : ℕ → List ℕ → Option (ℕ × List ℕ)
short_enough letter text = if nat_le (length text) 4294967294 then Some (letter, text) else None

-- a letter with the text of its spelling
abbrev pub spelled_text : ℕ → Option (List ℕ) → Option (ℕ × List ℕ)
spelled_text letter None = None
spelled_text letter (Some bytes) = short_enough letter (map_text letter bytes)

-- a letter with the text of the bits, where that encoding can hold them in so many characters
unfoldable pub text_of : ℕ → List Bool → Option (ℕ × List ℕ)
text_of letter bits = spelled_text letter (spelling_of letter bits)

-- the shorter of two texts, and of two as long the first
abbrev pub shorter : Option (ℕ × List ℕ) → Option (ℕ × List ℕ) → Option (ℕ × List ℕ)
shorter None second = second
shorter (Some first) None = Some first
shorter (Some first) (Some second) = if nat_lt (length second.1) (length first.1)
    then Some second else Some first

-- the shortest text of the bits, ties in the order `l`, `n`, `o`, `e`
unfoldable pub shortest_text : List Bool → Option (ℕ × List ℕ)
shortest_text bits = shorter (shorter (shorter (text_of BITSET bits) (text_of RUN_LENGTH bits))
    (text_of BITSET_2 bits)) (text_of RUN_LENGTH_2 bits)

-- the map of the shortest text: a text longer than the limit is left out whole, and its size stays
abbrev pub limited : ℕ → Option (ℕ × List ℕ) → BestMap
limited limit None = record { letter = None; text = []; size = 4294967295 }
limited limit (Some best) = if nat_le (length best.1) limit
    then record { letter = Some best.0; text = best.1; size = length best.1 }
    else record { letter = None; text = []; size = length best.1 }

-- the best map of the bits whose text has at most so many characters
unfoldable pub best_map : List Bool → ℕ → BestMap
best_map [] limit = record { letter = None; text = []; size = 0 }
best_map (bit ∷ bits) limit = limited limit (shortest_text (bit ∷ bits))

-- the size is more than so many parts in a hundred of the limit
abbrev pub is_pressed : ℕ → ℕ → ℕ → Bool
is_pressed size limit percent = nat_lt (limit * percent) (size * 100)
