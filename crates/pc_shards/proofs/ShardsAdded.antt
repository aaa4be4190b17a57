-- The shards with one more entry.
use Rattle.std.proofs.Common.{◌≡◌, ℕ, zero, suc, ◌<◌, ◌≤◌, Bool, true, false, ◌==◌, List, [], ◌∷◌, ◌++◌, length, get_or, set, slice_get, cond, Option, Some, refl, ap, sym, subst, inl, inr, ◌∙◌, arith}
use Rattle.std.specs.VecDeque.{deque_capacity, deque_len}
use Rattle.std.specs.List.{All}
use Rattle.std.proofs.lemmas.Bool.{cases_Bool, cases_lt}
use Rattle.std.proofs.lemmas.List.{length-map}
use Rattle.std.proofs.lemmas.Option.{slice_get_read}
use Rattle.pc_model.specs.declared.choices.Order.{Order}
use Rattle.pc_model.specs.declared.choices.Order.TheVariants.{None as NoOrder, Partition, Key as ByKey}
use Rattle.pc_model.specs.Next.{OrderingKey, same_key}
use Rattle.pc_model.specs.Next.OrderingKey.{OfKey, OfRecord}
use Rattle.pc_batch.specs.declared.record.RecordRef.{RecordRef}
use Rattle.pc_batch.specs.Record.{plain as plain_record}
use Rattle.pc_shards.specs.declared.part.EntryRef.{EntryRef}
use Rattle.pc_shards.specs.declared.part.Part.{Part}
use Rattle.pc_shards.specs.declared.shard_key.ShardKey.{ShardKey}
use Rattle.pc_shards.specs.Entries.{ChangesOnly, Entry, key_of, new_entry, of_part}
use Rattle.pc_shards.specs.Part.{IsPart, Keeps, is_alone, next_of, offsets_of, plain, plain_entries, queue}
use Rattle.pc_shards.specs.Queues.{queue_of}
use Rattle.pc_shards.specs.Rising.{In, Rises, put}
use Rattle.pc_shards.specs.ShardKey.{bytes_of, is_same}
use Rattle.pc_shards.specs.Shards.{HasRoomAt, IsShards, KeepsParts}
use Rattle.pc_shards.proofs.Lists.{and-off, number-is, number-is_not, number-same}
use Rattle.pc_shards.proofs.ShardKeyLemmas.{is_same-bytes, same_key-is, same_key-sym}
use Rattle.pc_shards.proofs.ReadyLemmas.{put-last}
use Rattle.pc_shards.proofs.AddedEntries.{added-behind, added-first, queue-push}
use Rattle.pc_shards.proofs.EntriesLemmas.{In-queue, ready-few}
use Rattle.pc_shards.proofs.ShardsLemmas.{AreQueued, IsPartAt, by-key, changes-set, entries_in, kept-set, kept-then, of-all, own-queued, queue_of-same, shards-kept, shards-with, view, view-set}

pub All-In : {X : Type 0} (P : X → Type 0) (x : X) (xs : List X) → All P xs → In x xs → P x
All-In P x [] all i = elim i [ ]
All-In P x (y ∷ ys) all (inl e) = subst P (sym e) (all zero y (omega arith))
All-In P x (y ∷ ys) all (inr i) = All-In P x ys (λ k d h. all (suc k) d (omega arith)) i

pub append-nil : {X : Type 0} (xs : List X) → xs ++ [] ≡ xs
append-nil [] = refl
append-nil (x ∷ xs) = ap (λ ys. x ∷ ys) (append-nil xs)

some-number : (n : ℕ) → (n == 0) ≡ false → 0 < n
some-number n e = elim (cases_lt 0 n) [
  | inl lt ↦ lt
  | inr le ↦ number-is_not n 0 e (omega arith)
]

pub plain-push : (es : List EntryRef) (e : EntryRef)
    → plain_entries (es ++ e ∷ []) ≡ plain_entries es ++ plain e ∷ []
plain-push [] e = refl
plain-push (x ∷ es) e = ap (λ xs. plain x ∷ xs) (plain-push es e)

pub no-members : (xs : List ℕ) → ((u : ℕ) → In u xs → ⊥) → xs ≡ []
no-members [] none = refl
no-members (x ∷ xs) none = absurd (none x (inl refl))

-- by records, no other has the key of an entry
pub queue-none : (p : ℕ) (es : List Entry) (e : Entry)
    → ((x : Entry) → In x es → x.record.offset ≡ e.record.offset → ⊥)
    → queue NoOrder p es (key_of NoOrder p e) ≡ []
queue-none p es e other = no-members (queue NoOrder p es (key_of NoOrder p e)) (λ u i.
    let q = In-queue NoOrder p es (key_of NoOrder p e) u i in
    let same : OfRecord p e.record.offset ≡ OfRecord p q.0.record.offset = q.3 in
    other q.0 q.1 (cc same))

-- by parts, all have it
pub queue-whole : (p : ℕ) (es : List Entry) (e : Entry)
    → queue Partition p es (key_of Partition p e) ≡ offsets_of es
queue-whole p [] e = refl
queue-whole p (x ∷ es) e = rw (number-same p p refl)
    (ap (λ (os : List ℕ). x.record.offset ∷ os) (queue-whole p es e))

-- whether an entry is alone with its ordering key
pub alone-is : (order : Order) (p : ℕ) (es : List Entry) (e : Entry) (n : ℕ) (q : List ℕ)
    → ((x : Entry) → In x es → x.record.offset < e.record.offset) → n ≡ length es
    → (order ≡ ByKey → q ≡ queue order p es (key_of order p e))
    → is_alone order n q ≡ (length (queue order p es (key_of order p e)) == 0)
alone-is NoOrder p es e n q below count by = sym (ap (λ (xs : List ℕ). length xs == 0)
    (queue-none p es e (λ x i same. let lt = below x i in omega (arith, lt, same))))
alone-is Partition p es e n q below count by = ap (λ (m : ℕ). m == 0) (count
    ∙ sym (ap (λ (xs : List ℕ). length xs) (queue-whole p es e)
    ∙ length-map es (λ (y : Entry). y.record.offset)))
alone-is ByKey p es e n q below count by = ap (λ (xs : List ℕ). length xs == 0) (by refl)

-- which offset is the next of the ordering key of an entry that is not there
pub next-is : (order : Order) (p : ℕ) (es : List Entry) (e : Entry) (q : List ℕ)
    → ((x : Entry) → In x es → x.record.offset ≡ e.record.offset → ⊥)
    → (order ≡ ByKey → q ≡ queue order p es (key_of order p e))
    → next_of order (offsets_of es) q ≡ slice_get (queue order p es (key_of order p e)) 0
next-is NoOrder p es e q other by = sym (ap (λ (xs : List ℕ). slice_get xs 0)
    (queue-none p es e other))
next-is Partition p es e q other by = sym (ap (λ (xs : List ℕ). slice_get xs 0)
    (queue-whole p es e))
next-is ByKey p es e q other by = ap (λ (xs : List ℕ). slice_get xs 0) (by refl)

-- by key bytes, an entry has another ordering key than other bytes
pub other-key : (order : Order) (p : ℕ) (e : Entry) → order ≡ ByKey → (k l : ShardKey)
    → e.record.key ≡ bytes_of k → is_same k l ≡ false
    → same_key (OfKey p (bytes_of l)) (key_of order p e) ≡ false
other-key order p e by k l key other =
    ap (λ (j : OrderingKey). same_key (OfKey p (bytes_of l)) j) (by-key order p e by)
    ∙ same_key-sym (OfKey p (bytes_of l)) (OfKey p e.record.key)
    ∙ ap (λ (b : Option (List ℕ)). same_key (OfKey p b) (OfKey p (bytes_of l))) key
    ∙ and-off (p == p) (is_same k l) other

-- the entry of a lent record that did not fail and is not busy
abbrev pub lent : RecordRef → EntryRef
lent r = record { «record» = r; failures = 0; is_busy = false }

module _ (order : Order) (before parts : List Part) (i : ℕ) (s : Part)
    (was : IsShards order before) (kept : KeepsParts before parts) (made : HasRoomAt i parts)
    (at : s ≡ get_or parts i s) where
  own-part : slice_get parts i ≡ Some s
  own-part = slice_get_read parts (length parts) i s refl made.within at

  now : IsShards order parts
  now = shards-kept order before parts was kept

  own-state : IsPart order i (plain_entries s.entries.items) s.ready.offsets s.ready.places
  own-state = subst (λ t. IsPartAt order i t) own-part (now.each i)

  own-view : of_part (view order before) i ≡ plain_entries s.entries.items
  own-view = of-all before i ∙ sym (kept.entries i) ∙ ap entries_in own-part

  -- there is a place for one more entry
  pub add-places : deque_len s.entries < deque_capacity s.entries
  add-places = made.entries s own-part

  -- and for its offset
  pub add-room : length s.ready.offsets < s.ready.places
  add-room =
      let few = ready-few order i (plain_entries s.entries.items) s.ready.offsets
      s.ready.places own-state in
      let count = length-map s.entries.items plain in
      let room = made.ready s own-part in
      let all = s.entries.ok.0 in omega (arith, few, count, room, all)

  pub add-rises : Rises s.ready.offsets
  add-rises = own-state.ready_rises

  -- what is ready is below what is above all
  ready-below : (o : ℕ) → All (λ e. e.record.offset < o) (of_part (view order before) i)
      → (u : ℕ) → In u s.ready.offsets → u < o
  ready-below o above u j = let r = own-state.sound u j in
      let lt = All-In (λ e. e.record.offset < o) r.entry (plain_entries s.entries.items)
      (subst (λ xs. All (λ e. e.record.offset < o) xs) own-view above) r.has in
      let at = r.at in omega (arith, lt, at)

  pub add-absent : (o : ℕ) → All (λ e. e.record.offset < o) (of_part (view order before) i)
      → In o s.ready.offsets → ⊥
  add-absent o above j = let lt = ready-below o above o j in omega (arith, lt)

  -- where memory runs out all stays
  pub refused : (t : Part) → Keeps s t → s.ready.places ≤ t.ready.places
      → KeepsParts before (set parts i t)
  refused t keeps room = kept-then before parts (set parts i t) kept
      (kept-set parts i s t made.within own-part keeps room)

  module _ (added : RecordRef) (t : Part)
      (entries : t.entries.items ≡ s.entries.items ++ lent added ∷ []) where
    new-entries : plain_entries t.entries.items ≡ plain_entries s.entries.items
        ++ new_entry (plain_record added) ∷ []
    new-entries = ap plain_entries entries ∙ plain-push s.entries.items (lent added)

    pub added-view : of_part (view order (set parts i t)) i ≡ of_part (view order before) i
        ++ new_entry (plain_record added) ∷ []
    added-view = view-set order parts i t made.within ∙ new-entries
        ∙ ap (λ es. es ++ new_entry (plain_record added) ∷ []) (sym own-view)

    pub added-others : ChangesOnly i (view order before) (view order (set parts i t))
    added-others = record {
      order = refl;
      others = λ p other. (changes-set order parts i t).others p other ∙ of-all parts p
          ∙ kept.entries p
          ∙ sym (of-all before p);
    }

    module _ (above : All (λ e. e.record.offset < added.offset) (of_part (view order before) i))
        (ready : t.ready.offsets ≡ cond (is_alone order (length s.entries.items)
        (queue_of s.queues (record { bytes = added.key })))
        (put added.offset s.ready.offsets) s.ready.offsets)
        (room : s.ready.places ≤ t.ready.places)
        (pushed : order ≡ ByKey → queue_of t.queues (record { bytes = added.key })
        ≡ queue_of s.queues (record { bytes = added.key }) ++ added.offset ∷ [])
        (others : (k : ShardKey) → is_same (record { bytes = added.key }) k ≡ false
        → queue_of t.queues k ≡ queue_of s.queues k)
      where
        abbrev entry : Entry
        entry = new_entry (plain_record added)

        abbrev key : ShardKey
        key = record { bytes = added.key }

        abbrev es : List Entry
        es = plain_entries s.entries.items

        below : (q : Entry) → In q es → q.record.offset < entry.record.offset
        below q j = All-In (λ e. e.record.offset < added.offset) q es (subst (λ xs. All
            (λ e. e.record.offset < added.offset) xs) own-view above) j

        queued : AreQueued order i es s
        queued = own-queued order parts i s now own-part

        alone : is_alone order (length s.entries.items) (queue_of s.queues key)
            ≡ (length (queue order i es (key_of order i entry)) == 0)
        alone = alone-is order i es entry (length s.entries.items) (queue_of s.queues key) below
            (sym (length-map s.entries.items plain))
            (λ by. queued by key ∙ ap (queue order i es) (sym (by-key order i entry by)))

        offsets : t.ready.offsets ≡ cond (length (queue order i es (key_of order i entry)) == 0)
            (s.ready.offsets ++ added.offset ∷ []) s.ready.offsets
        offsets = ready ∙ ap (λ b. cond b (put added.offset s.ready.offsets) s.ready.offsets) alone
            ∙ ap (λ (xs : List ℕ). cond (length (queue order i es (key_of order i entry)) == 0) xs
            s.ready.offsets)
            (put-last added.offset s.ready.offsets (ready-below added.offset above))

        fits : length es < s.ready.places
        fits = let count = length-map s.entries.items plain in
            let places = made.ready s own-part in
            let all = s.entries.ok.0 in omega (arith, count, places, all)

        queued-more : AreQueued order i (es ++ entry ∷ []) t
        queued-more by k = elim (cases_Bool (is_same key k)) [
          | inl own ↦ let keys : bytes_of key ≡ bytes_of k = is_same-bytes key k own in
              queue_of-same t.queues k key (sym keys) ∙ pushed by
              ∙ ap (λ (xs : List ℕ). xs ++ added.offset ∷ []) (queue_of-same s.queues key k keys
              ∙ queued by k)
              ∙ sym (queue-push order i es entry below (OfKey i (bytes_of k))
              ∙ ap (λ b. queue order i es (OfKey i (bytes_of k)) ++ cond b (added.offset ∷ []) [])
              (same_key-is (OfKey i (bytes_of k)) (key_of order i entry)
              (ap (λ (b : Option (List ℕ)). OfKey i b) (sym keys) ∙ sym (by-key order i entry by))))
          | inr other ↦ others k other ∙ queued by k
              ∙ sym (queue-push order i es entry below (OfKey i (bytes_of k))
              ∙ ap (λ b. queue order i es (OfKey i (bytes_of k)) ++ cond b (added.offset ∷ []) [])
              (other-key order i entry by key k refl other)
              ∙ append-nil (queue order i es (OfKey i (bytes_of k))))
        ]

        state : (b : Bool) → (length (queue order i es (key_of order i entry)) == 0) ≡ b
            → IsPart order i (es ++ entry ∷ []) (cond b (s.ready.offsets ++ added.offset ∷ [])
            s.ready.offsets) s.ready.places
        state true none = added-first order i es entry below s.ready.offsets
            s.ready.places s.ready.places own-state refl
            (number-is (length (queue order i es (key_of order i entry))) 0 none) fits
        state false some = added-behind order i es entry below s.ready.offsets
            s.ready.places s.ready.places own-state refl
            (some-number (length (queue order i es (key_of order i entry))) some) fits

        pub shards-added : IsShards order (set parts i t)
        shards-added = shards-with order parts i s t made.within now (es ++ entry ∷ [])
            (cond (length (queue order i es (key_of order i entry)) == 0)
            (s.ready.offsets ++ added.offset ∷ []) s.ready.offsets) new-entries offsets room
            (state (length (queue order i es (key_of order i entry)) == 0) refl) queued-more
