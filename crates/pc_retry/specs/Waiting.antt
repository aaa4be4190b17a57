-- Records that wait, and the least of them.
use Rattle.std.specs.Prelude.{ℕ, ◌≡◌, ◌≤◌, ◌==◌, false, nat_le, if◌then◌else◌, List, [], ◌∷◌, Option, Some, None, filter, map, slice_index, slice_index_or}
use Rattle.std.specs.BinaryHeap.{IsHeap}
use Rattle.std.specs.Option.{option_map_or}
use Rattle.std.specs.Ordering.{is_lt, nat_cmp, ordering_then}
use Rattle.std.specs.declared.cmp.Ordering.{Ordering}
use Rattle.std.specs.declared.cmp.Reverse.{Reverse}
use Rattle.pc_retry.specs.declared.queue.Retry.{Retry}
use Rattle.pc_retry.specs.Offsets.{Hold, Kept}

-- a queue: the records that wait, and for how many more there is room, in all and at place p of a
-- list of part p
pub record Waiting : Type 0 where
  pub retries : List Retry
  pub room : ℕ
  pub rooms : List ℕ

-- for how many more records of the part there is room
abbrev pub room_of : Waiting → ℕ → ℕ
room_of q p = slice_index q.rooms p

-- no part has less room than it had
abbrev pub KeepsRooms : Waiting → Waiting → Type 0
KeepsRooms old new = (p : ℕ) → room_of old p ≤ room_of new p

-- the offsets that wait of a part
abbrev pub offsets_of : ℕ → List Retry → List ℕ
offsets_of p retries = map (λ r. r.offset) (filter (λ r. r.part == p) retries)

-- how two retries compare: by time, then by part, then by offset
abbrev pub compare_retries : Retry → Retry → Ordering
compare_retries a b = ordering_then (nat_cmp a.ready_at b.ready_at)
    (ordering_then (nat_cmp a.part b.part) (nat_cmp a.offset b.offset))

-- the same the other way round
abbrev pub by_time : Reverse Retry → Reverse Retry → Ordering
by_time a b = compare_retries b.0 a.0

-- the lesser of two retries
abbrev pub lesser : Retry → Retry → Retry
lesser a b = if is_lt (compare_retries b a) then b else a

-- the least of some retries, if there are any
abbrev pub least_retry : List Retry → Option Retry
least_retry [] = None
least_retry (r ∷ rs) = Some (option_map_or (lesser r) (least_retry rs) r)

-- a retry whose time is not after this one
abbrev pub not_after : ℕ → Retry → Option Retry
not_after now r = if nat_le r.ready_at now then Some r else None

-- the least retry, where its time has come
abbrev pub due_retry : ℕ → List Retry → Option Retry
due_retry now retries = option_map_or (not_after now) (least_retry retries) None

-- ---- what a queue keeps of each part

-- no offsets, for which there is no room
abbrev pub nothing : Kept
nothing = record { added = []; gone = []; room = 0 }

-- what is kept of the offsets of a part, by the list for all parts
abbrev pub kept_at : List Kept → ℕ → Kept
kept_at parts p = slice_index_or parts p nothing

abbrev pub room_at : List Kept → ℕ → ℕ
room_at parts p = (kept_at parts p).room

-- the heap is in order, and of each part the offsets are kept that wait
pub record IsQueue (retries : List (Reverse Retry)) (parts : List Kept) : Type 0 where
  pub heap : IsHeap by_time retries
  pub each : (p : ℕ) → Hold (offsets_of p (map (λ r. r.0) retries)) (kept_at parts p)

-- each part has the offsets that it had, and no less room
pub record KeepsParts (old new : List Kept) : Type 0 where
  pub offsets : (p : ℕ) (offsets : List ℕ) → Hold offsets (kept_at old p) → Hold offsets (kept_at new p)
  pub rooms : (p : ℕ) → room_at old p ≤ room_at new p

-- one part has no offsets any more, and the others are what they were
pub record DropsPart (at : ℕ) (old new : List Kept) : Type 0 where
  pub here : Hold [] (kept_at new at)
  pub others : (p : ℕ) → (p == at) ≡ false → kept_at new p ≡ kept_at old p
