-- The table of keys: each with its table, its word and its least and most number.
use Rattle.std.specs.Prelude.{ℕ, ◌-◌, ◌^◌, List, [], ◌∷◌, ◌++◌, codes}
use Rattle.pc_model.specs.declared.limits.TheConstants.{MAX_DELAY, MAX_METADATA_BYTES, MAX_PARTS, MAX_RECORDS, MAX_WORKERS}
use Rattle.pc_config.specs.declared.key.Key.{Key}
use Rattle.pc_config.specs.declared.key.Key.TheVariants as key
use Rattle.pc_config.specs.declared.place.Place.{Place}
use Rattle.pc_config.specs.declared.place.Place.TheVariants.{Top, Fail, Start}

-- a line of the table; the range is of a number, a list's length or a text's bytes
pub record KeyRow : Type 0 where
  pub place : Place
  pub word : List ℕ
  pub least : ℕ
  pub most : ℕ

abbrev pub row : Place → List ℕ → ℕ → ℕ → KeyRow
row place word least most = record { place = place; word = word; least = least; most = most }

abbrev pub row_of : Key → KeyRow
row_of key.Order = row Top (codes "order") 0 0
row_of key.Function = row Top (codes "function") 0 0
row_of key.Workers = row Top (codes "workers") 1 MAX_WORKERS
row_of key.MapLimit = row Top (codes "map_limit") 0 MAX_METADATA_BYTES
row_of key.PressPercent = row Top (codes "press_percent") 1 100
row_of key.Delays = row Top (codes "delays") 1 16
row_of key.Delay = row Top (codes "delays") 0 MAX_DELAY
row_of key.GiveUp = row Top (codes "give_up") 1 MAX_RECORDS
row_of key.Buffer = row Top (codes "buffer") 1 MAX_RECORDS
row_of key.PollMax = row Top (codes "poll_max") 1 MAX_RECORDS
row_of key.CommitEvery = row Top (codes "commit_every") 1 MAX_RECORDS
row_of key.BadMap = row Top (codes "bad_map") 0 0
row_of key.Fail = row Top (codes "fail") 0 MAX_RECORDS
row_of key.FailPart = row Fail (codes "part") 0 (MAX_PARTS - 1)
row_of key.FailOffset = row Fail (codes "offset") 0 (2 ^ 63 - 2)
row_of key.FailTimes = row Fail (codes "times") 1 MAX_RECORDS
row_of key.Start = row Top (codes "start") 0 MAX_PARTS
row_of key.StartPart = row Start (codes "part") 0 (MAX_PARTS - 1)
row_of key.StartPosition = row Start (codes "position") 0 (2 ^ 63 - 1)
row_of key.StartMap = row Start (codes "map") 0 MAX_METADATA_BYTES

abbrev pub place_of : Key → Place
place_of k = (row_of k).place

abbrev pub word_of : Key → List ℕ
word_of k = (row_of k).word

abbrev pub least_of : Key → ℕ
least_of k = (row_of k).least

abbrev pub most_of : Key → ℕ
most_of k = (row_of k).most

-- what stands before the name of a key in a fault
abbrev pub prefix_of : Place → List ℕ
prefix_of Top = []
prefix_of Fail = codes "fail."
prefix_of Start = codes "start."

-- a key's name in a fault
abbrev pub name_of : Key → List ℕ
name_of k = prefix_of (place_of k) ++ word_of k

-- the keys of a table
abbrev pub keys_at : Place → List Key
keys_at Top = key.Order ∷ key.Function ∷ key.Workers ∷ key.MapLimit ∷ key.PressPercent ∷ key.Delays ∷ key.GiveUp ∷ key.Buffer ∷ key.PollMax ∷ key.CommitEvery ∷ key.BadMap ∷ key.Fail ∷ key.Start ∷ []
keys_at Fail = key.FailPart ∷ key.FailOffset ∷ key.FailTimes ∷ []
keys_at Start = key.StartPart ∷ key.StartPosition ∷ key.StartMap ∷ []
