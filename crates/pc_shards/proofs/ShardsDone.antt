-- The shards without an offset that was the first of its ordering key.
use Rattle.std.proofs.Common.{◌≡◌, ℕ, ◌<◌, ◌≤◌, true, false, not, ◌==◌, List, length, drop, set, slice_get, Option, Some, None, ap, sym, subst, inl, inr, ◌∙◌, arith}
use Rattle.std.proofs.lemmas.Bool.{cases_Bool}
use Rattle.pc_model.specs.declared.choices.Order.{Order}
use Rattle.pc_model.specs.declared.choices.Order.TheVariants.{Key as ByKey}
use Rattle.pc_model.specs.Next.OrderingKey.{OfKey}
use Rattle.pc_shards.specs.declared.part.Part.{Part}
use Rattle.pc_shards.specs.declared.shard_key.ShardKey.{ShardKey}
use Rattle.pc_shards.specs.Entries.{Entry, is_first, key_of, without}
use Rattle.pc_shards.specs.Part.{EachAt, next_of, offsets_of, plain_entries, queue}
use Rattle.pc_shards.specs.Queues.{queue_of}
use Rattle.pc_shards.specs.Rising.{In, Rises, but, put}
use Rattle.pc_shards.specs.ShardKey.{bytes_of, is_same}
use Rattle.pc_shards.specs.Shards.{IsShards}
use Rattle.pc_shards.proofs.Lists.{In-filtered, not-true, number-is_not}
use Rattle.pc_shards.proofs.RisingLemmas.{Rises-filter}
use Rattle.pc_shards.proofs.ShardKeyLemmas.{is_same-bytes, same_key-sym}
use Rattle.pc_shards.proofs.TakenEntries.{done-last, done-next, next-apart, next-place, queue-done, queue-others}
use Rattle.pc_shards.proofs.EntriesLemmas.{first-entry}
use Rattle.pc_shards.proofs.ShardsAdded.{next-is, other-key}
use Rattle.pc_shards.proofs.ShardsLemmas.{AreQueued, IsFound, by-key, queue_of-same, shards-with}

module _ (order : Order) (parts : List Part) (i o : ℕ) (s t : Part)
    (is : IsShards order parts) (f : IsFound order parts i o s) (shard : ShardKey)
    (entries : plain_entries t.entries.items ≡ without o (plain_entries s.entries.items))
    (ready : t.ready.offsets ≡ but o s.ready.offsets)
    (room : s.ready.places ≤ t.ready.places)
    (key : EachAt o (plain_entries s.entries.items) (λ e. e.record.key ≡ bytes_of shard)) where
  pub last-rises : Rises t.ready.offsets
  last-rises = rw ready (Rises-filter (λ x. not (x == o)) s.ready.offsets f.part.ready_rises)

  module _ (next : Option ℕ) (popped : order ≡ ByKey
      → queue_of t.queues shard ≡ drop 1 (queue_of s.queues shard))
      (others : (k : ShardKey) → is_same shard k ≡ false
      → queue_of t.queues k ≡ queue_of s.queues k)
      (next_of_key : next ≡ next_of order (offsets_of (plain_entries t.entries.items))
      (queue_of t.queues shard)) where
    abbrev es : List Entry
    es = plain_entries s.entries.items

    first_one : (e : Entry) × In e es × (e.record.offset ≡ o) × (is_first order i es e ≡ true)
    first_one = first-entry order i es o f.first

    own-key : order ≡ ByKey → OfKey i (bytes_of shard) ≡ key_of order i first_one.0
    own-key by = ap (λ (b : Option (List ℕ)). OfKey i b)
        (sym (key first_one.0 first_one.1 first_one.2)) ∙ sym (by-key order i first_one.0 by)

    queued-own : order ≡ ByKey
        → queue_of t.queues shard ≡ queue order i (without o es) (key_of order i first_one.0)
    queued-own by = popped by ∙ ap (λ xs. drop 1 xs) (f.queued by shard
        ∙ ap (queue order i es) (own-key by))
        ∙ sym (queue-done order i es s.ready.offsets s.ready.places o f.part
        first_one.0 first_one.1 first_one.2 first_one.3)

    queued-after : AreQueued order i (without o es) t
    queued-after by k = elim (cases_Bool (is_same shard k)) [
      | inl same ↦ let keys : bytes_of shard ≡ bytes_of k = is_same-bytes shard k same in
          queue_of-same t.queues k shard (sym keys) ∙ queued-own by
          ∙ ap (queue order i (without o es)) (sym (own-key by)
          ∙ ap (λ (b : Option (List ℕ)). OfKey i b) keys)
      | inr other ↦ others k other ∙ f.queued by k
          ∙ sym (queue-others order i es s.ready.offsets s.ready.places o f.part
          first_one.0 first_one.1 first_one.2 first_one.3 (OfKey i (bytes_of k))
          (same_key-sym (key_of order i first_one.0) (OfKey i (bytes_of k))
          ∙ other-key order i first_one.0 by shard k (key first_one.0 first_one.1 first_one.2) other))
    ]

    gone : (x : Entry) → In x (without o es) → x.record.offset ≡ first_one.0.record.offset → ⊥
    gone x j at = let m = In-filtered (λ (y : Entry). not (y.record.offset == o)) x es j in
        number-is_not x.record.offset o (not-true (x.record.offset == o) m.1) (at ∙ first_one.2)

    own-next : next ≡ slice_get (queue order i (without o es) (key_of order i first_one.0)) 0
    own-next = next_of_key ∙ ap (λ (xs : List Entry). next_of order (offsets_of xs)
        (queue_of t.queues shard)) entries
        ∙ next-is order i (without o es) first_one.0 (queue_of t.queues shard) gone queued-own

    -- of the last of a key
    pub shards-last : next ≡ None → IsShards order (set parts i t)
    shards-last none = shards-with order parts i s t f.within is (without o es)
        (but o s.ready.offsets) entries ready room (done-last order i es s.ready.offsets
        s.ready.places o f.part
        first_one.0 first_one.1 first_one.2 first_one.3 (sym own-next ∙ none)) queued-after

    module _ (n : ℕ) (head : next ≡ Some n) where
      -- there is a place for the next of the key
      pub done-place : length t.ready.offsets < t.ready.places
      done-place = let few = next-place order i es s.ready.offsets
          s.ready.places o
          f.part first_one.0 first_one.1 first_one.2 first_one.3 n (sym own-next ∙ head) in
          let len = ap length ready in omega (arith, few, len, room)

      pub done-absent : In n t.ready.offsets → ⊥
      done-absent j = next-apart order i es s.ready.offsets s.ready.places o f.part
          first_one.0 first_one.1 first_one.2 first_one.3 n (sym own-next ∙ head)
          (subst (λ (xs : List ℕ). In n xs) ready j)

      -- which is ready then
      pub shards-next : (u : Part) → u.entries ≡ t.entries → u.queues ≡ t.queues
          → u.ready.offsets ≡ put n t.ready.offsets
          → t.ready.places ≤ u.ready.places → IsShards order (set parts i u)
      shards-next u same queues offsets places =
          shards-with order parts i s u f.within is (without o es)
          (put n (but o s.ready.offsets)) (ap (λ v. plain_entries v.items) same ∙ entries)
          (offsets ∙ ap (put n) ready) (omega (arith, places, room))
          (done-next order i es s.ready.offsets s.ready.places o
          f.part first_one.0 first_one.1 first_one.2 first_one.3 n (sym own-next ∙ head))
          (λ by k. ap (λ v. queue_of v k) queues ∙ queued-after by k)
