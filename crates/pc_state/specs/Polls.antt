-- Records that are to be polled.
use Rattle.std.specs.Prelude.{ℕ, ◌+◌, ◌-◌, ◌≡◌, slice_get, ◌==◌, ◌||◌, Bool, nat_le, List, map, take, drop, length}
use Rattle.std.specs.List.{list_any}
use Rattle.std.specs.Option.{option_map_or}
use Rattle.pc_model.specs.declared.event.Event.{Event}
use Rattle.pc_model.specs.Given.{Given}
use Rattle.pc_model.specs.Record.{Record}
use Rattle.pc_model.specs.Known.{unpolled_records}
use Rattle.pc_model.specs.Marks.{Mark}
use Rattle.pc_partition.specs.Window.{AreNext, StandsFor, Window, with_polled}
use Rattle.pc_shards.specs.Entries.{Entry, new_entry}
use Rattle.pc_state.specs.declared.part.HeldPart.{HeldPart}
use Rattle.pc_state.specs.declared.polls.Taken.{Taken}

-- these are the next records of the part that were not polled
abbrev pub AreNextRecords : Given → List Event → ℕ → List Record → Type 0
AreNextRecords given h p records = records ≡ take (length records) (unpolled_records given h p)

-- the offset of the last of these records, or 0
abbrev pub last_offset : List Record → ℕ
last_offset rs = option_map_or (λ r. r.offset) (slice_get rs (length rs - 1)) 0

-- a poll took these records
pub record AreTaken (records : List Record) (taken : Taken) : Type 0 where
  pub count : taken.count ≡ length records
  pub last : taken.last ≡ last_offset records

-- the entries of records that were just polled
abbrev pub new_entries : List Record → List Entry
new_entries records = map (λ r. new_entry r) records

-- whether the offset is incomplete in a window, or above the offsets that are known there
abbrev pub is_open_in : Window → ℕ → Bool
is_open_in w o = nat_le w.after o || list_any (λ u. u == o) w.incomplete

-- these offsets of a held part were polled
pub record IsPolled (offsets : List ℕ) (old new : HeldPart) : Type 0 where
  pub window : (begin n : ℕ) (marks : List Mark) → StandsFor old.window.window begin n marks
      → AreNext n marks offsets
      → StandsFor new.window.window begin (n + length offsets) (with_polled n marks offsets)
  pub rest : new.rest.left ≡ drop (length offsets) old.rest.left
  pub size : new.size ≡ old.size

-- the same is known of a held part
pub record IsSameHeld (old new : HeldPart) : Type 0 where
  pub window : new.window.window ≡ old.window.window
  pub rest : new.rest ≡ old.rest
  pub size : new.size ≡ old.size
