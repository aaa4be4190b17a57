-- The shards without the last entry of a part.
use Rattle.std.proofs.Common.{◌≡◌, ℕ, ◌<◌, ◌≤◌, ◌-◌, false, List, [], ◌∷◌, ◌++◌, length, get_or, set, slice_get, take, cond, Option, Some, refl, ap, sym, subst, inl, inr, ◌∙◌, arith}
use Rattle.std.proofs.lemmas.Bool.{cases_Bool, cases_lt}
use Rattle.std.proofs.lemmas.Option.{slice_get_past, slice_get_read}
use Rattle.pc_model.specs.declared.choices.Order.{Order}
use Rattle.pc_model.specs.declared.choices.Order.TheVariants.{Key as ByKey}
use Rattle.pc_model.specs.Next.{same_key}
use Rattle.pc_model.specs.Next.OrderingKey.{OfKey}
use Rattle.pc_shards.specs.declared.part.EntryRef.{EntryRef}
use Rattle.pc_shards.specs.declared.part.Part.{Part}
use Rattle.pc_shards.specs.declared.shard_key.ShardKey.{ShardKey}
use Rattle.pc_shards.specs.Entries.{Entry, key_of, of_part}
use Rattle.pc_shards.specs.Part.{IsPart, plain, plain_entries, queue}
use Rattle.pc_shards.specs.Queues.{queue_of}
use Rattle.pc_shards.specs.Rising.{In, Rises, but}
use Rattle.pc_shards.specs.ShardKey.{bytes_of, is_same}
use Rattle.pc_shards.specs.Shards.{IsShards}
use Rattle.pc_shards.proofs.AddedEntries.{queue-push}
use Rattle.pc_shards.proofs.CutEntries.{last-above, part-front, take-front}
use Rattle.pc_shards.proofs.ShardKeyLemmas.{is_same-bytes, same_key-is}
use Rattle.pc_shards.proofs.ShardsAdded.{append-nil, other-key, plain-push}
use Rattle.pc_shards.proofs.ShardsLemmas.{AreQueued, IsPartAt, by-key, entries_in, of-all, own-queued, queue_of-same, shards-with, view, view-set}

module _ (order : Order) (parts : List Part) (i : ℕ) (s : Part)
    (is : IsShards order parts) (some : 0 < length (of_part (view order parts) i))
    (at : s ≡ get_or parts i s) where
  within : i < length parts
  within = elim (cases_lt i (length parts)) [
    | inl lt ↦ lt
    | inr past ↦ let none = ap (λ (es : List Entry). length es) (of-all parts i
        ∙ ap entries_in (slice_get_past parts i past)) in
        absurd (omega (arith, some, none))
  ]

  own : slice_get parts i ≡ Some s
  own = slice_get_read parts (length parts) i s refl within at

  part : IsPart order i (plain_entries s.entries.items) s.ready.offsets s.ready.places
  part = subst (λ t. IsPartAt order i t) own (is.each i)

  own-view : of_part (view order parts) i ≡ plain_entries s.entries.items
  own-view = of-all parts i ∙ ap entries_in own

  pub popped-rises : Rises s.ready.offsets
  popped-rises = part.ready_rises

  module _ (t : Part) (last : EntryRef)
      (entries : s.entries.items ≡ t.entries.items ++ last ∷ []) where
    abbrev es : List Entry
    es = plain_entries t.entries.items

    abbrev e : Entry
    e = plain last

    split : plain_entries s.entries.items ≡ es ++ e ∷ []
    split = ap plain_entries entries ∙ plain-push t.entries.items last

    pub popped-view : of_part (view order (set parts i t)) i
        ≡ take (length (of_part (view order parts) i) - 1) (of_part (view order parts) i)
    popped-view = view-set order parts i t within ∙ sym (take-front es e)
        ∙ ap (λ (xs : List Entry). take (length xs - 1) xs) (sym (own-view ∙ split))

    state : IsPart order i (es ++ e ∷ []) s.ready.offsets s.ready.places
    state = subst (λ xs. IsPart order i xs s.ready.offsets s.ready.places) split part

    above : (q : Entry) → In q es → q.record.offset < e.record.offset
    above = last-above es e state.rises

    queued : order ≡ ByKey → (k : ShardKey) → queue_of s.queues k
        ≡ queue order i es (OfKey i (bytes_of k))
        ++ cond (same_key (OfKey i (bytes_of k)) (key_of order i e)) (e.record.offset ∷ []) []
    queued by k = own-queued order parts i s is own by k
        ∙ ap (λ (xs : List Entry). queue order i xs (OfKey i (bytes_of k))) split
        ∙ queue-push order i es e above (OfKey i (bytes_of k))

    module _ (ready : t.ready.offsets ≡ but last.record.offset s.ready.offsets)
        (room : s.ready.places ≤ t.ready.places)
        (popped : order ≡ ByKey → queue_of t.queues (record { bytes = last.record.key })
        ≡ take (length (queue_of s.queues (record { bytes = last.record.key })) - 1)
        (queue_of s.queues (record { bytes = last.record.key })))
        (others : (k : ShardKey) → is_same (record { bytes = last.record.key }) k ≡ false
        → queue_of t.queues k ≡ queue_of s.queues k) where
      abbrev shard : ShardKey
      shard = record { bytes = last.record.key }

      queued-own : order ≡ ByKey
          → queue_of t.queues shard ≡ queue order i es (OfKey i (bytes_of shard))
      queued-own by = popped by
          ∙ ap (λ (xs : List ℕ). take (length xs - 1) xs) (queued by shard
          ∙ ap (λ b. queue order i es (OfKey i (bytes_of shard)) ++ cond b (e.record.offset ∷ []) [])
          (same_key-is (OfKey i (bytes_of shard)) (key_of order i e) (sym (by-key order i e by))))
          ∙ take-front (queue order i es (OfKey i (bytes_of shard))) e.record.offset

      queued-front : AreQueued order i es t
      queued-front by k = elim (cases_Bool (is_same shard k)) [
        | inl one ↦ let keys : bytes_of shard ≡ bytes_of k = is_same-bytes shard k one in
            queue_of-same t.queues k shard (sym keys) ∙ queued-own by
            ∙ ap (λ (b : Option (List ℕ)). queue order i es (OfKey i b)) keys
        | inr other ↦ others k other ∙ queued by k
            ∙ ap (λ b. queue order i es (OfKey i (bytes_of k)) ++ cond b (e.record.offset ∷ []) [])
            (other-key order i e by shard k refl other)
            ∙ append-nil (queue order i es (OfKey i (bytes_of k)))
      ]

      pub shards-popped : IsShards order (set parts i t)
      shards-popped = shards-with order parts i s t within is es (but e.record.offset s.ready.offsets)
          refl ready room
          (part-front order i es e s.ready.offsets s.ready.places state) queued-front
