-- What stands at a key: a number, a word or a list.
use Rattle.std.specs.Prelude.{ℕ, ℤ, pos, negsuc, Bool, not, ◌&&◌, nat_le, List, [], ◌∷◌, ◌++◌, codes, Option, Some, None, option_map, Result, Ok, Err, if◌then◌else◌}
use Rattle.std.specs.Cmp.Lexicographic.{slice_cmp}
use Rattle.std.specs.List.{filter, list_any, reduce}
use Rattle.std.specs.Option.{ok_or}
use Rattle.std.specs.Ordering.{is_lt, nat_cmp}
use Rattle.std.specs.Str.{bytes_eq}
use Rattle.pc_model.specs.declared.choices.Order.{Order}
use Rattle.pc_model.specs.declared.choices.Order.TheVariants as order
use Rattle.pc_model.specs.declared.choices.Work.{Work}
use Rattle.pc_model.specs.declared.choices.Work.TheVariants as work
use Rattle.pc_model.specs.declared.choices.BadMapRule.{BadMapRule}
use Rattle.pc_model.specs.declared.choices.BadMapRule.TheVariants as bad_map
use Rattle.toml.specs.Data.{Data, Items, no_items, item, Members, no_members, member, get_member, as_integer, as_str, as_array}
use Rattle.pc_config.specs.declared.key.Key.{Key}
use Rattle.pc_config.specs.declared.place.Place.{Place}
use Rattle.pc_config.specs.declared.fault.ConfigFault.{ConfigFault}
use Rattle.pc_config.specs.declared.fault.ConfigFault.TheVariants.{UnknownKey}
use Rattle.pc_config.specs.declared.fault.KeyFault.{KeyFault}
use Rattle.pc_config.specs.declared.fault.KeyFault.TheVariants.{Missing, Bad, Beyond}
use Rattle.pc_config.specs.Keys.{word_of, least_of, most_of, prefix_of, keys_at}

-- the value of a key
unfoldable pub member_of : Key → Members → Option Data
member_of k ms = get_member (word_of k) ms

-- the integer of a key, or None inside where it has another type
abbrev pub integer_at : Key → Members → Option (Option ℤ)
integer_at k ms = option_map as_integer (member_of k ms)

-- a number from the key's least to its most
abbrev pub number_in : Key → ℤ → Result ℕ KeyFault
number_in k (pos n) = if nat_le (least_of k) n && nat_le n (most_of k) then Ok n else Err (Beyond k)
number_in k (negsuc n) = Err (Beyond k)

-- the number of a value
abbrev pub number_of : Key → Option ℤ → Result ℕ KeyFault
number_of k None = Err (Bad k)
number_of k (Some z) = number_in k z

-- the number of a key that may be absent
abbrev pub number_or : Key → ℕ → Option (Option ℤ) → Result ℕ KeyFault
number_or k default None = Ok default
number_or k default (Some value) = number_of k value

-- the number of a key that may not be absent
abbrev pub number_needed : Key → Option (Option ℤ) → Result ℕ KeyFault
number_needed k None = Err (Missing k)
number_needed k (Some value) = number_of k value

-- the text of a key, or None inside where it has another type
abbrev pub text_at : Key → Members → Option (Option (List ℕ))
text_at k ms = option_map as_str (member_of k ms)

-- items as a plain list
abbrev pub list_of : Items → List Data
list_of no_items = []
list_of (item d ds) = d ∷ list_of ds

-- the items of a list
abbrev pub items_in : Data → Option (List Data)
items_in d = option_map list_of (as_array d)

-- the items of a key's list, or None inside where it has another type
abbrev pub list_at : Key → Members → Option (Option (List Data))
list_at k ms = option_map items_in (member_of k ms)

-- the words of the keys that a table has
abbrev pub words_in : Members → List (List ℕ)
words_in no_members = []
words_in (member word d ms) = word ∷ words_in ms

-- whether a table of this place may have the key
abbrev pub is_key : Place → List ℕ → Bool
is_key place word = list_any (λ k. bytes_eq (word_of k) word) (keys_at place)

-- the lesser of two texts by their bytes
abbrev pub lesser : List ℕ → List ℕ → List ℕ
lesser a b = if is_lt (slice_cmp nat_cmp a b) then a else b

-- the least key by its bytes that the table may not have
abbrev pub unknown_in : Place → Members → Option (List ℕ)
unknown_in place ms = reduce lesser (filter (λ word. not (is_key place word)) (words_in ms))

abbrev pub no_unknown : Place → Option (List ℕ) → Result (Unit {0}) ConfigFault
no_unknown place None = Ok tt
no_unknown place (Some word) = Err (UnknownKey (prefix_of place ++ word))

-- a table whose keys are all among those of its place
unfoldable pub known_keys : Place → Members → Result (Unit {0}) ConfigFault
known_keys place ms = no_unknown place (unknown_in place ms)

-- ---- words

-- the value that a word names
abbrev pub word_in : {A : Type 0} → Key → (List ℕ → Option A) → Option (List ℕ) → Result A KeyFault
word_in k named None = Err (Bad k)
word_in k named (Some text) = ok_or (named text) (Bad k)

-- the same of a key that may be absent
abbrev pub word_or : {A : Type 0} → Key → (List ℕ → Option A) → A → Option (Option (List ℕ)) → Result A KeyFault
word_or k named default None = Ok default
word_or k named default (Some value) = word_in k named value

unfoldable pub order_named : List ℕ → Option Order
order_named text =
    if bytes_eq text (codes "none") then Some order.None
    else (if bytes_eq text (codes "partition") then Some order.Partition
    else (if bytes_eq text (codes "key") then Some order.Key
    else None))

unfoldable pub work_named : List ℕ → Option Work
work_named text =
    if bytes_eq text (codes "length") then Some work.Length
    else (if bytes_eq text (codes "bytesum") then Some work.ByteSum
    else (if bytes_eq text (codes "hex") then Some work.Hex
    else None))

unfoldable pub bad_map_named : List ℕ → Option BadMapRule
bad_map_named text =
    if bytes_eq text (codes "redo") then Some bad_map.Redo
    else (if bytes_eq text (codes "refuse") then Some bad_map.Refuse
    else None)
