-- The entries of a part with lent records, and what holds of the state of a part.
use Rattle.std.specs.Prelude.{ℕ, ◌≡◌, ◌≤◌, ◌==◌, Bool, true, false, List, map, filter, length, Option, None, slice_get}
use Rattle.pc_batch.specs.Record.{plain as plain_record}
use Rattle.pc_model.specs.declared.choices.Order.{Order}
use Rattle.pc_model.specs.declared.choices.Order.TheVariants.{None as NoOrder, Partition, Key as ByKey}
use Rattle.pc_model.specs.Next.{OrderingKey, same_key}
use Rattle.pc_shards.specs.declared.part.EntryRef.{EntryRef}
use Rattle.pc_shards.specs.declared.part.Part.{Part}
use Rattle.pc_shards.specs.Entries.{BusyAreFirst, Entry, is_first, key_of}
use Rattle.pc_shards.specs.declared.shard_key.ShardKey.{ShardKey}
use Rattle.pc_shards.specs.Queues.{queue_of}
use Rattle.pc_shards.specs.Rising.{In, Rises}

-- the entry whose record is lent
abbrev pub plain : EntryRef → Entry
plain e = record
    { «record» = plain_record e.record; failures = e.failures; is_busy = e.is_busy }

-- the entries whose records are lent
abbrev pub plain_entries : List EntryRef → List Entry
plain_entries es = map plain es

-- the offsets of entries
abbrev pub offsets_of : List Entry → List ℕ
offsets_of es = map (λ e. e.record.offset) es

-- that this holds of each entry at the offset
abbrev pub EachAt : ℕ → List Entry → (Entry → Type 0) → Type 0
EachAt o es P = (e : Entry) → In e es → e.record.offset ≡ o → P e

-- that the part has the offset, which is not ready where it is busy, and that its offsets and its
-- ready ones rise
pub record Holds (o : ℕ) (part : Part) : Type 0 where
  pub rises : Rises (offsets_of (plain_entries part.entries.items))
  pub ready_rises : Rises part.ready.offsets
  pub apart : EachAt o (plain_entries part.entries.items) (λ e. e.is_busy ≡ true)
      → In o part.ready.offsets → ⊥
  pub has : In o (offsets_of (plain_entries part.entries.items))

-- that a part has what it had
pub record Keeps (old new : Part) : Type 0 where
  pub entries : new.entries.items ≡ old.entries.items
  pub ready : new.ready.offsets ≡ old.ready.offsets
  pub queues : (k : ShardKey) → queue_of new.queues k ≡ queue_of old.queues k

-- the offsets of an ordering key
abbrev pub queue : Order → ℕ → List Entry → OrderingKey → List ℕ
queue order p es k = offsets_of (filter (λ e. same_key k (key_of order p e)) es)

-- whether no other record of an ordering key is there, by how many entries there are and by the
-- queue of the key, which is kept where records are ordered by key
abbrev pub is_alone : Order → ℕ → List ℕ → Bool
is_alone NoOrder n offsets = true
is_alone Partition n offsets = n == 0
is_alone ByKey n offsets = length offsets == 0

-- the next offset of an ordering key whose first was taken out, by the offsets that are left and
-- by the queue of the key
abbrev pub next_of : Order → List ℕ → List ℕ → Option ℕ
next_of NoOrder all offsets = None
next_of Partition all offsets = slice_get all 0
next_of ByKey all offsets = slice_get offsets 0

-- that the offset is the first of its ordering key and not busy
pub record IsReady (order : Order) (p : ℕ) (es : List Entry) (o : ℕ) : Type 0 where
  pub entry : Entry
  pub has : In entry es
  pub at : entry.record.offset ≡ o
  pub first : is_first order p es entry ≡ true
  pub free : entry.is_busy ≡ false

-- the state of a part: its entries rise, only those that are the first of their ordering key are
-- busy, the ready offsets are those that are ready, and there is a place for each entry
pub record IsPart (order : Order) (p : ℕ) (es : List Entry) (ready : List ℕ)
    (places : ℕ) : Type 0 where
  pub rises : Rises (offsets_of es)
  pub firsts : BusyAreFirst order p es
  pub ready_rises : Rises ready
  pub sound : (o : ℕ) → In o ready → IsReady order p es o
  pub whole : (o : ℕ) → IsReady order p es o → In o ready
  pub room : length es ≤ places
