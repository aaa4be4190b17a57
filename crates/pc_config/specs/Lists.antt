-- The lists of a configuration, item by item.
use Rattle.std.specs.Prelude.{ℕ, Bool, ◌&&◌, ◌==◌, nat_le, List, [], ◌∷◌, ◌++◌, length, Option, Some, None, is_some, Result, Ok, Err, if◌then◌else◌}
use Rattle.std.specs.List.{list_all, list_any}
use Rattle.toml.specs.Data.{Data, Members, as_integer, as_table}
use Rattle.pc_model.specs.declared.outcome.FailRule.{FailRule}
use Rattle.pc_model.specs.declared.outcome.Start.{Start}
use Rattle.pc_config.specs.declared.key.Key.{Key}
use Rattle.pc_config.specs.declared.key.Key.TheVariants as key
use Rattle.pc_config.specs.declared.place.Place.TheVariants as place
use Rattle.pc_config.specs.declared.fault.ConfigFault.{ConfigFault}
use Rattle.pc_config.specs.declared.fault.KeyFault.{KeyFault}
use Rattle.pc_config.specs.declared.fault.KeyFault.TheVariants.{Bad, Beyond}
use Rattle.pc_config.specs.Keys.{least_of, most_of}
use Rattle.pc_config.specs.Faults.{◌>>=◌, fault_of, public}
use Rattle.pc_config.specs.Members.{integer_at, text_at, list_at, number_of, number_needed, known_keys}

-- the items in order, each read with those before it, up to the first fault
unfoldable pub read_each : {A B : Type 0} → (List B → A → Result B ConfigFault) → List B → List A → Result (List B) ConfigFault
read_each read before [] = Ok before
read_each read before (x ∷ xs) = read before x >>= (λ y. read_each read (before ++ y ∷ []) xs)

-- how many there are, from the key's least to its most
abbrev pub count_in : Key → ℕ → Result (Unit {0}) KeyFault
count_in k n = if nat_le (least_of k) n && nat_le n (most_of k) then Ok tt else Err (Beyond k)

-- the items are all of one type, and as many as the key takes
abbrev pub list_fits : Key → (Data → Bool) → List Data → Result (Unit {0}) KeyFault
list_fits k is_item items = if list_all is_item items then count_in k (length items) else Err (Bad k)

-- the list of a key that may be absent
abbrev pub list_or : {B : Type 0} → Key → (Data → Bool) → (List B → Data → Result B ConfigFault) → List B → Option (Option (List Data)) → Result (List B) ConfigFault
list_or k is_item read default None = Ok default
list_or k is_item read default (Some None) = Err (fault_of (Bad k))
list_or k is_item read default (Some (Some items)) = public (list_fits k is_item items) >>= (λ _. read_each read [] items)

abbrev pub is_integer : Data → Bool
is_integer d = is_some (as_integer d)

abbrev pub is_table : Data → Bool
is_table d = is_some (as_table d)

-- ---- delays

abbrev pub delay_of : List ℕ → Data → Result ℕ ConfigFault
delay_of before d = public (number_of key.Delay (as_integer d))

unfoldable pub delays_of : Members → Result (List ℕ) ConfigFault
delays_of ms = list_or key.Delays is_integer delay_of (100 ∷ []) (list_at key.Delays ms)

-- ---- fail

-- the numbers of a table of `fail`
unfoldable pub fail_numbers : Members → Result FailRule KeyFault
fail_numbers ms = do
  part ← number_needed key.FailPart (integer_at key.FailPart ms)
  offset ← number_needed key.FailOffset (integer_at key.FailOffset ms)
  times ← number_needed key.FailTimes (integer_at key.FailTimes ms)
  Ok (record { part = part; offset = offset; times = times })

abbrev pub fail_of : Option Members → Result FailRule ConfigFault
fail_of None = Err (fault_of (Bad key.Fail))
fail_of (Some ms) = known_keys place.Fail ms >>= (λ _. public (fail_numbers ms))

abbrev pub fail_item : List FailRule → Data → Result FailRule ConfigFault
fail_item before d = fail_of (as_table d)

unfoldable pub fails_of : Members → Result (List FailRule) ConfigFault
fails_of ms = list_or key.Fail is_table fail_item [] (list_at key.Fail ms)

-- ---- start

-- a part that no start before has
abbrev pub new_part : List Start → ℕ → Result ℕ KeyFault
new_part before part = if list_any (λ s. s.part == part) before then Err (Bad key.StartPart) else Ok part

-- a text of at most as many bytes as the key takes
abbrev pub map_in : Option (List ℕ) → Result (List ℕ) KeyFault
map_in None = Err (Bad key.StartMap)
map_in (Some text) = count_in key.StartMap (length text) >>= (λ _. Ok text)

abbrev pub map_or_empty : Option (Option (List ℕ)) → Result (List ℕ) KeyFault
map_or_empty None = Ok []
map_or_empty (Some value) = map_in value

-- the part and position of a table of `start`
unfoldable pub start_place : List Start → Members → Result (ℕ × ℕ) KeyFault
start_place before ms = do
  number ← number_needed key.StartPart (integer_at key.StartPart ms)
  part ← new_part before number
  position ← number_needed key.StartPosition (integer_at key.StartPosition ms)
  Ok (part, position)

unfoldable pub start_map : Members → Result (List ℕ) KeyFault
start_map ms = map_or_empty (text_at key.StartMap ms)

unfoldable pub start_values : List Start → Members → Result Start ConfigFault
start_values before ms = do
  given ← public (start_place before ms)
  text ← public (start_map ms)
  Ok (record { part = given.0; position = given.1; map = text })

abbrev pub start_of : List Start → Option Members → Result Start ConfigFault
start_of before None = Err (fault_of (Bad key.Start))
start_of before (Some ms) = known_keys place.Start ms >>= (λ _. start_values before ms)

abbrev pub start_item : List Start → Data → Result Start ConfigFault
start_item before d = start_of before (as_table d)

unfoldable pub starts_of : Members → Result (List Start) ConfigFault
starts_of ms = list_or key.Start is_table start_item [] (list_at key.Start ms)
