-- Ordering keys, which records may be dispatched, and which is next.
use Rattle.std.specs.Prelude.{ℕ, ◌+◌, ◌-◌, min, Bool, true, false, not, ◌&&◌, ◌||◌, ◌==◌, nat_lt, nat_le, if◌then◌else◌, List, [], ◌++◌, map, length, Option, Some, None, filter, option_map, slice_get, bytes_eq}
use Rattle.std.specs.List.{list_any, list_all, range_with_len}
use Rattle.std.specs.Option.{option_map_or}
use Rattle.pc_model.specs.declared.choices.Order.{Order}
use Rattle.pc_model.specs.declared.choices.Order.TheVariants.{None as NoOrder, Partition, Key}
use Rattle.pc_model.specs.declared.event.Event.{Event}
use Rattle.pc_model.specs.Record.{Record}
use Rattle.pc_model.specs.Numbers.{least_of, first_some}
use Rattle.pc_model.specs.Given.{Given, record_at}
use Rattle.pc_model.specs.Jobs.{Job, jobs_of, open_jobs}
use Rattle.pc_model.specs.Epochs.{is_held, is_current}
use Rattle.pc_model.specs.Known.{polled_records, is_complete}
use Rattle.pc_model.specs.Pressure.{is_blocked, is_below_high}
use Rattle.pc_model.specs.Retry.{now_of, failures_of, ready_of}

-- what records that run one after the other share: the part and the offset, the part alone, or the
-- part and the key bytes, where no key is another key than the empty one
pub data OrderingKey : Type 0 where
  OfRecord : ℕ → ℕ → OrderingKey
  OfPart : ℕ → OrderingKey
  OfKey : ℕ → Option (List ℕ) → OrderingKey

-- a record's ordering key
abbrev pub ordering_key : Order → ℕ → Record → OrderingKey
ordering_key NoOrder p r = OfRecord p r.offset
ordering_key Partition p r = OfPart p
ordering_key Key p r = OfKey p r.key

-- whether two keys' bytes are the same
abbrev pub same_bytes : Option (List ℕ) → Option (List ℕ) → Bool
same_bytes None None = true
same_bytes (Some a) (Some b) = bytes_eq a b
same_bytes _ _ = false

-- whether two ordering keys are the same
abbrev pub same_key : OrderingKey → OrderingKey → Bool
same_key (OfRecord p o) (OfRecord q u) = (p == q) && (o == u)
same_key (OfPart p) (OfPart q) = p == q
same_key (OfKey p a) (OfKey q b) = (p == q) && same_bytes a b
same_key _ _ = false

-- the ordering key of a job's record, if the log has it
abbrev pub job_key : Given → Job → Option OrderingKey
job_key given j = option_map (ordering_key given.setup.settings.order j.part)
    (record_at given j.part j.offset)

-- whether the job's record has this ordering key
abbrev pub has_key : Given → OrderingKey → Job → Bool
has_key given key j = option_map_or (same_key key) (job_key given j) false

-- whether a current job of this ordering key is outstanding
unfoldable pub is_busy : Given → List Event → OrderingKey → Bool
is_busy given h key = list_any (λ j. is_current h j && has_key given key j) (open_jobs h)

-- whether the first record stands before the second and shares its ordering key
abbrev pub is_before : Given → ℕ → Record → Record → Bool
is_before given p q r = nat_lt q.offset r.offset
    && same_key (ordering_key given.setup.settings.order p q) (ordering_key given.setup.settings.order p r)

-- whether every earlier polled record of the record's ordering key is complete
unfoldable pub is_first : Given → List Event → ℕ → Record → Bool
is_first given h p r = list_all (λ q. not (is_before given p q r) || is_complete h p q.offset)
    (polled_records given h p)

-- whether a polled record of a held part may be dispatched: it is incomplete, no current job of its
-- key is outstanding, it is the first of its key, it has attempts left, its ready time has come,
-- and under pressure it lies below the part's high
unfoldable pub is_eligible_record : Given → List Event → ℕ → Record → Bool
is_eligible_record given h p r = not (is_complete h p r.offset)
    && not (is_busy given h (ordering_key given.setup.settings.order p r))
    && is_first given h p r
    && nat_lt (failures_of h p r.offset) given.setup.settings.give_up
    && nat_le (ready_of h p r.offset) (now_of h)
    && (not (is_blocked given h p) || is_below_high given h p r.offset)

-- the offsets of the part that may be dispatched
unfoldable pub eligible_offsets : Given → List Event → ℕ → List ℕ
eligible_offsets given h p = if is_held h p
    then map (λ r. r.offset) (filter (is_eligible_record given h p) (polled_records given h p)) else
    []

-- whether the offset of the part may be dispatched
abbrev pub is_eligible : Given → List Event → ℕ → ℕ → Bool
is_eligible given h p o = list_any (λ u. u == o) (eligible_offsets given h p)

-- the first n parts in cyclic order, beginning after a part, or with part 0
abbrev pub cyclic_order : ℕ → Option ℕ → List ℕ
cyclic_order n None = range_with_len 0 n
cyclic_order n (Some p) = range_with_len (p + 1) (n - (p + 1)) ++ range_with_len 0 (min n (p + 1))

-- the part of the last dispatch, if there was one
abbrev pub last_part : List Event → Option ℕ
last_part h = option_map (λ j. j.part) (slice_get (jobs_of h) 0)

-- the part's least offset that may be dispatched, with the part
abbrev pub next_of_part : Given → List Event → ℕ → Option (ℕ × ℕ)
next_of_part given h p = option_map (λ o. (p, o)) (least_of (eligible_offsets given h p))

-- the part and the offset of the record to dispatch: of the first part, in cyclic order after that
-- of the last dispatch, that has one, the least
unfoldable pub next_record : Given → List Event → Option (ℕ × ℕ)
next_record given h = first_some (next_of_part given h)
    (cyclic_order (length given.logs) (last_part h))
