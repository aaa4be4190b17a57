-- What is asked of a state: which records are not finished, and what is not stored.
use Rattle.std.specs.Prelude.{ℕ, not, ◌==◌, if◌then◌else◌, List, ◌++◌, Option, None, find, option_map, slice_get}
use Rattle.std.specs.Option.{option_or}
use Rattle.pc_state.specs.declared.queries.Unfinished.{Unfinished}
use Rattle.pc_state.specs.declared.queries.Unfinished.TheVariants.{NotDone, Uncommitted}
use Rattle.pc_model.specs.declared.event.Event.{Event}
use Rattle.pc_model.specs.Given.{Given, parts_of}
use Rattle.pc_model.specs.Epochs.{is_held}
use Rattle.pc_model.specs.Known.{position_of, unpolled_records}
use Rattle.pc_model.specs.Numbers.{first_some}
use Rattle.pc_model.specs.Run.{open_records}
use Rattle.pc_model.specs.Stored.{may_store}

-- the offset of the part's first record that is incomplete or was not polled
abbrev pub unfinished : Given → List Event → ℕ → Option ℕ
unfinished given h p = option_map (λ r. r.offset)
    (slice_get (open_records given h p ++ unpolled_records given h p) 0)

-- the same with the part, while it is held
abbrev pub unfinished_at : Given → List Event → ℕ → Option (ℕ × ℕ)
unfinished_at given h p = option_map (λ o. (p, o)) (if is_held h p then unfinished given h p else None)

-- the least held part that has such a record, and its offset
unfoldable pub first_unfinished : Given → List Event → Option (ℕ × ℕ)
first_unfinished given h = first_some (unfinished_at given h) (parts_of given)

-- the position of the first commit that may be stored for the part and has another position than it
abbrev pub other_stored : Given → List Event → ℕ → Option ℕ
other_stored given h p = option_map (λ c. c.position)
    (find (λ c. not (c.position == position_of given h p)) (may_store given h p))

-- the same with the part, while it is held
abbrev pub uncommitted_at : Given → List Event → ℕ → Option (ℕ × ℕ)
uncommitted_at given h p = option_map (λ o. (p, o)) (if is_held h p then other_stored given h p else None)

-- the least held part for which such a commit may be stored, and that commit's position
unfoldable pub first_uncommitted : Given → List Event → Option (ℕ × ℕ)
first_uncommitted given h = first_some (uncommitted_at given h) (parts_of given)

-- why not all is done: the least held part with such a record, or else the least for which such a
-- commit may be stored
abbrev pub unfinished_part : Given → List Event → Option Unfinished
unfinished_part given h = option_or
    (option_map (λ it. NotDone it.0 it.1) (first_unfinished given h))
    (option_map (λ it. Uncommitted it.0 it.1 (position_of given h it.0)) (first_uncommitted given h))
