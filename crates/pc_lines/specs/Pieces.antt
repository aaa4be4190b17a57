-- The lines of a text and the words of a line.
use Rattle.std.specs.Prelude.{ℕ, Bool, true, false, List, [], ◌∷◌, ◌==◌, filter, if◌then◌else◌}
use Rattle.std.specs.List.{onto_first, slice_split}

-- a byte that ends a line
abbrev pub is_feed : ℕ → Bool
is_feed b = b == 10

-- a byte that ends a word
abbrev pub is_space : ℕ → Bool
is_space b = b == 32

abbrev pub is_not_empty : List ℕ → Bool
is_not_empty [] = false
is_not_empty (b ∷ piece) = true

-- the pieces that line feeds end, and what stands after the last one where it is not empty
abbrev pub lines_of : List ℕ → List (List ℕ)
lines_of [] = []
lines_of (b ∷ text) = if is_feed b then [] ∷ lines_of text else onto_first b (lines_of text)

-- the pieces between spaces, without the empty ones
abbrev pub words_of : List ℕ → List (List ℕ)
words_of line = filter is_not_empty (slice_split is_space line)
