-- The parts of the shards, and what holds of them.
use Rattle.std.specs.Prelude.{ℕ, ◌≡◌, ◌<◌, ◌≤◌, Some, length, List, [], map, slice_get}
use Rattle.std.specs.VecDeque.{deque_capacity, deque_len}
use Rattle.std.specs.Option.{option_map_or}
use Rattle.pc_model.specs.declared.choices.Order.{Order}
use Rattle.pc_model.specs.declared.choices.Order.TheVariants.{Key as ByKey}
use Rattle.pc_model.specs.Next.OrderingKey.{OfKey}
use Rattle.pc_shards.specs.declared.part.Part.{Part}
use Rattle.pc_shards.specs.declared.shard_key.ShardKey.{ShardKey}
use Rattle.pc_shards.specs.Entries.{Entry}
use Rattle.pc_shards.specs.Part.{IsPart, plain_entries, queue}
use Rattle.pc_shards.specs.Queues.{queue_of}
use Rattle.pc_shards.specs.ShardKey.{bytes_of}

-- the entries of each part
abbrev pub all_entries : List Part → List (List Entry)
all_entries parts = map (λ s. plain_entries s.entries.items) parts

-- the entries of a part
abbrev pub entries_at : List Part → ℕ → List Entry
entries_at parts p = option_map_or (λ s. plain_entries s.entries.items) (slice_get parts p) []

-- its ready offsets
abbrev pub ready_at : List Part → ℕ → List ℕ
ready_at parts p = option_map_or (λ s. s.ready.offsets) (slice_get parts p) []

-- how many ready offsets there is room for
abbrev pub room_at : List Part → ℕ → ℕ
room_at parts p = option_map_or (λ s. s.ready.places) (slice_get parts p) 0

-- the queue of a key of a part
abbrev pub queue_at : List Part → ℕ → ShardKey → List ℕ
queue_at parts p k = option_map_or (λ s. queue_of s.queues k) (slice_get parts p) []

-- that each part is in its state, and that its queues are those of its entries where records are
-- ordered by key
pub record IsShards (order : Order) (parts : List Part) : Type 0 where
  pub each : (p : ℕ) → IsPart order p (entries_at parts p) (ready_at parts p) (room_at parts p)
  pub queued : order ≡ ByKey → (p : ℕ) (k : ShardKey)
      → queue_at parts p k ≡ queue order p (entries_at parts p) (OfKey p (bytes_of k))

-- that each part has what it had, and no less room
pub record KeepsParts (old new : List Part) : Type 0 where
  pub entries : (p : ℕ) → entries_at new p ≡ entries_at old p
  pub ready : (p : ℕ) → ready_at new p ≡ ready_at old p
  pub room : (p : ℕ) → room_at old p ≤ room_at new p
  pub queues : (p : ℕ) (k : ShardKey) → queue_at new p k ≡ queue_at old p k

-- that there is a part at this place with room for one more entry, ready or not
pub record HasRoomAt (p : ℕ) (parts : List Part) : Type 0 where
  pub within : p < length parts
  pub entries : (s : Part) → slice_get parts p ≡ Some s → deque_len s.entries < deque_capacity s.entries
  pub ready : (s : Part) → slice_get parts p ≡ Some s → deque_len s.entries < s.ready.places
