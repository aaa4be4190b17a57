-- Worked histories, the oldest event first: one for each order of processing, and one for each thing
-- that may come between a poll and a commit. Beside each stand neighbours that are not legal.
use Rattle.std.specs.Prelude.{ℕ, pos, List, [], ◌∷◌, codes, Option, Some, None, refl}
use Rattle.pc_model.specs.declared.choices.Order.TheVariants.{Partition, Key}
use Rattle.pc_model.specs.declared.choices.Work.TheVariants.{Length}
use Rattle.pc_model.specs.declared.setup.Setup.{Setup}
use Rattle.pc_model.specs.declared.event.Event.{Event}
use Rattle.pc_model.specs.declared.event.Event.TheVariants.{Assign, Poll, Dispatch, Success, Failure, Stale, Commit, Revoke, Tick, Drain, Closed}
use Rattle.pc_model.specs.Record.{Record}
use Rattle.pc_model.specs.Given.{Given}
use Rattle.pc_model.specs.Defaults.{default_settings}
use Rattle.pc_model.specs.Ranges.{settings_fault}
use Rattle.pc_model.specs.Rows.{plain_setup, row_given, row_log, two_bits, with_line}

-- ---- the order by key

-- a record at time 0, without headers
abbrev pub keyed : ℕ → Option (List ℕ) → List ℕ → Record
keyed offset key value = record
    { offset = offset; time = pos 0; key = key; value = Some value; headers = [] }

-- four records: without a key, with the empty key, without a key, and with the key `a`
abbrev pub keyed_log : List Record
keyed_log = keyed 0 None (codes "w") ∷ keyed 1 (Some []) (codes "xx")
    ∷ keyed 2 None (codes "yyy") ∷ keyed 3 (Some (codes "a")) (codes "zzzz") ∷ []

unfoldable pub key_setup : Setup
unfolding settings_fault
key_setup = record { settings = record default_settings { order = Key }; in_range = refl }

unfoldable pub by_key : Given
by_key = record (row_given key_setup) { logs = Some keyed_log ∷ [] }

-- a record without a key runs beside one with the empty key, and another without a key waits for it
abbrev pub key_order : List Event
key_order = Assign 0 1 0 [] ∷ Poll 0 4 3 ∷ Dispatch 1 0 0 0 1 1 ∷ Dispatch 2 1 0 1 1 1
    ∷ Dispatch 3 2 0 3 1 1 ∷ Success 1 (codes "1") ∷ Dispatch 4 0 0 2 1 1 ∷ []

abbrev pub key_neighbours : List (List Event)
key_neighbours =
    -- the second without a key beside the first; the first key's record passed over
    with_line key_order 4 (Dispatch 3 2 0 2 1 1) ∷ with_line key_order 3 (Dispatch 2 1 0 2 1 1)
    -- the empty key's record held back for the one without a key
    ∷ with_line key_order 3 (Dispatch 2 1 0 3 1 1) ∷ []

-- ---- the order by part

unfoldable pub part_setup : Setup
unfolding settings_fault
part_setup = record { settings = record default_settings { order = Partition }; in_range = refl }

-- two parts with the same three records; those of each run one after the other
unfoldable pub by_part : Given
by_part = record (row_given part_setup) { logs = Some row_log ∷ Some row_log ∷ [] }

-- the parts take turns
abbrev pub part_order : List Event
part_order = Assign 0 1 0 [] ∷ Assign 1 1 0 [] ∷ Poll 1 3 2 ∷ Poll 0 3 2 ∷ Dispatch 1 0 0 0 1 1
    ∷ Dispatch 2 1 1 0 1 1 ∷ Success 1 (codes "1") ∷ Success 2 (codes "1") ∷ Dispatch 3 0 0 1 1 1
    ∷ Dispatch 4 1 1 1 1 1 ∷ []

abbrev pub part_neighbours : List (List Event)
part_neighbours =
    -- two records of one part at once; the other part first, or after its own turn
    with_line part_order 5 (Dispatch 2 1 0 1 1 1) ∷ with_line part_order 4 (Dispatch 1 0 1 0 1 1)
    ∷ with_line part_order 9 (Dispatch 4 1 1 2 1 1) ∷ []

-- ---- the order by record, over two parts

unfoldable pub by_record : Given
by_record = record (row_given plain_setup) { logs = Some row_log ∷ Some row_log ∷ [] }

-- the parts take turns, beginning with part 0, also where each has more records
abbrev pub record_order : List Event
record_order = Assign 0 1 0 [] ∷ Assign 1 1 0 [] ∷ Poll 0 3 2 ∷ Poll 1 3 2 ∷ Dispatch 1 0 0 0 1 1
    ∷ Dispatch 2 0 1 0 1 1 ∷ Dispatch 3 0 0 1 1 1 ∷ Dispatch 4 0 1 1 1 1 ∷ Dispatch 5 0 0 2 1 1 ∷ []

abbrev pub record_neighbours : List (List Event)
record_neighbours = with_line record_order 5 (Dispatch 2 0 0 1 1 1)
    ∷ with_line record_order 6 (Dispatch 3 0 1 1 1 1) ∷ []

-- ---- a second delay, and a record that is given up

-- the first record fails three times at most, and waits 100 and then 200
unfoldable pub delays_setup : Setup
unfolding settings_fault
delays_setup = record {
  settings = record default_settings {
    rules = record
        { work = Length; fails = record { part = 0; offset = 0; times = 5 } ∷ [] };
    delays = 100 ∷ 200 ∷ [];
    give_up = 3;
  };
  in_range = refl;
}

abbrev pub second_delay : List Event
second_delay = Assign 0 1 0 [] ∷ Poll 0 1 0 ∷ Dispatch 1 0 0 0 1 1 ∷ Failure 1 1 100 ∷ Tick 150
    ∷ Dispatch 2 0 0 0 1 2 ∷ Failure 2 1 350 ∷ Tick 350 ∷ Dispatch 3 0 0 0 1 3 ∷ Failure 3 1 550
    ∷ Tick 600 ∷ Poll 0 2 2 ∷ Dispatch 4 0 0 1 1 1 ∷ []

abbrev pub delay_neighbours : List (List Event)
delay_neighbours =
    -- the first delay again; a third one; before its time
    with_line second_delay 6 (Failure 2 1 250) ∷ with_line second_delay 9 (Failure 3 1 650)
    ∷ with_line second_delay 7 (Dispatch 3 0 0 0 1 3)
    -- a fourth attempt of a record that is given up
    ∷ with_line second_delay 11 (Dispatch 4 0 0 0 1 4) ∷ []

-- ---- a start with a map

-- offset 1 was passed over before
unfoldable pub started : Given
started = record (row_given plain_setup)
    { start = record { part = 0; position = 0; map = two_bits } ∷ [] }

abbrev pub start_with_a_map : List Event
start_with_a_map = Assign 0 1 0 two_bits ∷ Poll 0 3 2 ∷ Dispatch 1 0 0 0 1 1 ∷ Dispatch 2 0 0 2 1 1
    ∷ Success 1 (codes "1") ∷ Commit 0 2 [] 0 ∷ []

abbrev pub start_neighbours : List (List Event)
start_neighbours = with_line start_with_a_map 0 (Assign 0 1 0 [])
    ∷ with_line start_with_a_map 3 (Dispatch 2 0 0 1 1 1)
    ∷ with_line start_with_a_map 5 (Commit 0 1 [] 0) ∷ []

-- ---- a revocation, and a close

abbrev pub revocation : List Event
revocation = Assign 0 1 0 [] ∷ Poll 0 3 2 ∷ Dispatch 1 0 0 0 1 1 ∷ Commit 0 0 [] 0 ∷ Revoke 0 1
    ∷ Stale 1 ∷ Assign 0 3 0 [] ∷ Closed ∷ []

abbrev pub revocation_neighbours : List (List Event)
revocation_neighbours =
    -- without its commit; a result that comes too late
    with_line revocation 3 (Revoke 0 1) ∷ with_line revocation 5 (Success 1 (codes "1"))
    -- a commit of a part that was given back; an event after the close
    ∷ with_line revocation 5 (Commit 0 0 [] 0) ∷ (Drain ∷ with_line revocation 7 Closed) ∷ []
