-- The words of what is wrong with a map.
use Rattle.std.specs.Prelude.{ℕ, List, [], ◌∷◌, codes}
use Rattle.pc_model.specs.declared.map_fault.MapFault.{MapFault}
use Rattle.pc_model.specs.declared.map_fault.MapFault.TheVariants as map
use Rattle.pc_print.specs.Line.{named}

-- the words of what is wrong with a map
abbrev pub map_words : MapFault → List (List ℕ)
map_words map.NotBase64 = codes "not-base64" ∷ []
map_words (map.Compressed letter) = named (codes "compressed") letter
map_words (map.UnknownLetter letter) = named (codes "unknown-letter") letter
map_words map.ShortNumber = codes "short-number" ∷ []
map_words map.NegativeNumber = codes "negative-number" ∷ []
map_words map.TooManyBytes = codes "too-many-bytes" ∷ []
map_words map.PastLastOffset = codes "past-last-offset" ∷ []
map_words map.NoMemory = codes "no-memory" ∷ []
