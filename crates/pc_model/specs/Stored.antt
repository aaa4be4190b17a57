-- What the link's store may hold for a part, and what a commit passes over.
use Rattle.std.specs.Prelude.{ℕ, ◌+◌, ◌-◌, Bool, false, ◌&&◌, ◌||◌, ◌==◌, nat_lt, if◌then◌else◌, List, [], ◌∷◌, ◌++◌, length, Option, Some, None, Result, Ok, Err, slice_index_or, bytes_eq}
use Rattle.std.specs.List.{list_any}
use Rattle.pc_model.specs.declared.event.Event.{Event}
use Rattle.pc_model.specs.declared.event.Event.TheVariants.{Assign, Commit as Committed, CommitFailed}
use Rattle.pc_model.specs.declared.commit.Commit.{Commit}
use Rattle.pc_model.specs.declared.map_fault.MapFault.{MapFault}
use Rattle.pc_model.specs.Given.{Given, start_of}
use Rattle.pc_model.specs.MapReading.{map_reading}

-- what this event puts for certain in the place of all that may be stored for the part
abbrev pub stored_by : Event → ℕ → Option Commit
stored_by (Assign p e position text) q = if p == q then Some
    (record { position = position; map = text }) else None
stored_by (Committed p position text size) q = if p == q then Some
    (record { position = position; map = text }) else None
stored_by _ q = None

-- what this event may have stored for the part or not
abbrev pub failed_by : Event → ℕ → Option Commit
failed_by (CommitFailed p position text size) q = if p == q then Some
    (record { position = position; map = text }) else None
failed_by _ q = None

-- what may be stored after an event, by what may have been before
abbrev pub stored_after : Option Commit → Option Commit → List Commit → List Commit
stored_after (Some c) failed before = c ∷ []
stored_after None (Some c) before = before ++ c ∷ []
stored_after None None before = before

-- the commits of which the link's store has one for the part: the last that was stored for certain,
-- and those that failed since
abbrev pub may_store : Given → List Event → ℕ → List Commit
may_store given [] p = start_of given p ∷ []
may_store given (e ∷ h) p = stored_after (stored_by e p) (failed_by e p) (may_store given h p)

-- the truth values that a map's reading gives, and none where it is no map or does not read
abbrev pub bits_read : Result (Option (List Bool)) MapFault → List Bool
bits_read (Ok (Some bits)) = bits
bits_read (Ok None) = []
bits_read (Err fault) = []

-- the truth values of the commit's map, of which the first stands for the position
unfoldable pub map_bits : Commit → List Bool
map_bits c = bits_read (map_reading c.position c.map)

-- the first offset above all of which the commit's map says anything
unfoldable pub map_end : Commit → ℕ
map_end c = c.position + length (map_bits c)

-- whether the commit passes over the offset: it lies below the position, or its bit in the map is 1
unfoldable pub passes : Commit → ℕ → Bool
passes c o = nat_lt o c.position || slice_index_or (map_bits c) (o - c.position) false

-- whether the two commits are the same
abbrev pub same_commit : Commit → Commit → Bool
same_commit c d = (c.position == d.position) && bytes_eq c.map d.map

-- whether the commit is one of these
abbrev pub is_entry : List Commit → Commit → Bool
is_entry commits c = list_any (same_commit c) commits
