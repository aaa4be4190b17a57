-- The parts and the queues, when one part changes.
use Rattle.std.proofs.Common.{◌≡◌, ◌⊎◌, ℕ, ◌+◌, cond, zero, suc, ◌<◌, ◌≤◌, Bool, true, false, ◌&&◌, ◌==◌, List, [], ◌∷◌, ◌++◌, length, get_or, set, slice_get, Option, Some, None, refl, ap, sym, subst, inl, inr, ◌∙◌, arith}
use Rattle.std.specs.VecDeque.{deque_capacity, deque_len}
use Rattle.std.proofs.Math.ListN.{length-set}
use Rattle.std.specs.Option.{option_map_or}
use Rattle.std.proofs.lemmas.Bool.{cases_Bool, cases_lt}
use Rattle.std.proofs.lemmas.Option.{slice_get_past, slice_get_read}
use Rattle.pc_model.specs.declared.choices.Order.{Order}
use Rattle.pc_model.specs.declared.choices.Order.TheVariants.{Key as ByKey}
use Rattle.pc_model.specs.Next.{OrderingKey, same_bytes}
use Rattle.pc_model.specs.Next.OrderingKey.{OfKey}
use Rattle.indexmap.specs.IndexMap.{get_by}
use Rattle.pc_shards.specs.declared.part.Part.{Part}
use Rattle.pc_shards.specs.declared.queues.Queues.{Queues}
use Rattle.pc_shards.specs.declared.shard_key.ShardKey.{ShardKey}
use Rattle.pc_shards.specs.Entries.{ChangesNothing, ChangesOnly, Entries, Entry, failed, has_entry_at, is_first, is_first_offset, key_of, of_part, with_busy, with_failure}
use Rattle.pc_shards.specs.Part.{EachAt, Holds, IsPart, Keeps, plain_entries, queue}
use Rattle.pc_shards.specs.Queues.{queue_of}
use Rattle.pc_shards.specs.Rising.{In, but, put}
use Rattle.pc_shards.specs.ShardKey.{bytes_of}
use Rattle.pc_shards.specs.Shards.{HasRoomAt, IsShards, KeepsParts, all_entries, entries_at, ready_at, room_at}
use Rattle.pc_shards.proofs.Lists.{In-list_any, In-map, and-both, list_any-In, number-is, number-is_not, number-same, true-false}
use Rattle.pc_shards.proofs.PartLemmas.{one-entry}
use Rattle.pc_shards.proofs.ChangedEntries.{part-changed, queue-changed}
use Rattle.pc_shards.proofs.MarkedEntries.{busy-apart, busy-place, made_busy, made_free, queue-with_busy, with_busy-same}
use Rattle.pc_shards.proofs.EntriesLemmas.{first-entry}

-- ---- what is at a place

-- what clauses see of a part is what it has
pub of-all : (parts : List Part) (p : ℕ) → get_or (all_entries parts) p [] ≡ entries_at parts p
of-all [] p = refl
of-all (s ∷ parts) zero = refl
of-all (s ∷ parts) (suc p) = of-all parts p

pub set-here : (parts : List Part) (i : ℕ) (s : Part) → i < length parts
    → slice_get (set parts i s) i ≡ Some s
set-here [] i s h = absurd (omega arith)
set-here (t ∷ parts) zero s h = refl
set-here (t ∷ parts) (suc i) s h = set-here parts i s (omega arith)

pub set-other : (parts : List Part) (i p : ℕ) (s : Part) → (p ≡ i → ⊥)
    → slice_get (set parts i s) p ≡ slice_get parts p
set-other [] i p s h = refl
set-other (t ∷ parts) zero zero s h = absurd (h refl)
set-other (t ∷ parts) zero (suc p) s h = refl
set-other (t ∷ parts) (suc i) zero s h = refl
set-other (t ∷ parts) (suc i) (suc p) s h = set-other parts i p s (λ e. h (ap suc e))

-- ---- one part changes

abbrev pub view : Order → List Part → Entries
view order parts = record { order = order; parts = all_entries parts }

abbrev pub entries_in : Option Part → List Entry
entries_in s = option_map_or (λ s. plain_entries s.entries.items) s []

pub view-set : (order : Order) (parts : List Part) (i : ℕ) (s : Part) → i < length parts
    → of_part (view order (set parts i s)) i ≡ plain_entries s.entries.items
view-set order parts i s h = of-all (set parts i s) i ∙ ap entries_in (set-here parts i s h)

pub changes-set : (order : Order) (parts : List Part) (i : ℕ) (s : Part)
    → ChangesOnly i (view order parts) (view order (set parts i s))
changes-set order parts i s = record {
  order = refl;
  others = λ p other. of-all (set parts i s) p ∙ ap entries_in (set-other parts i p s (number-is_not
      p i other))
      ∙ sym (of-all parts p);
}

abbrev pub IsPartAt : Order → ℕ → Option Part → Type 0
IsPartAt order p s = IsPart order p (entries_in s) (option_map_or (λ s. s.ready.offsets) s [])
    (option_map_or (λ s. s.ready.places) s 0)

-- the queue of a key in it
abbrev pub queue_in : Option Part → ShardKey → List ℕ
queue_in s k = option_map_or (λ s. queue_of s.queues k) s []

-- that the queues of a part are those of its entries where records are ordered by key
abbrev pub AreQueued : Order → ℕ → List Entry → Part → Type 0
AreQueued order p es s = order ≡ ByKey → (k : ShardKey)
    → queue_of s.queues k ≡ queue order p es (OfKey p (bytes_of k))

pub shards-set : (order : Order) (parts : List Part) (i : ℕ) (s : Part)
    → i < length parts → IsShards order parts
    → IsPart order i (plain_entries s.entries.items) s.ready.offsets s.ready.places
    → AreQueued order i (plain_entries s.entries.items) s
    → IsShards order (set parts i s)
shards-set order parts i s h is part own = record {
  each = λ p. elim (cases_Bool (p == i)) [
    | inl same ↦ let at : p ≡ i = number-is p i same in
        subst (λ q. IsPartAt order q (slice_get (set parts i s) q)) (sym at)
        (subst (λ o. IsPartAt order i o) (sym (set-here parts i s h)) part)
    | inr other ↦ subst (λ o. IsPartAt order p o) (sym (set-other parts i p s
        (number-is_not p i other))) (is.each p)
  ];
  queued = λ by p k. elim (cases_Bool (p == i)) [
    | inl same ↦ let at : p ≡ i = number-is p i same in
        subst (λ q. queue_in (slice_get (set parts i s) q) k
        ≡ queue order q (entries_in (slice_get (set parts i s) q)) (OfKey q (bytes_of k))) (sym at)
        (subst (λ (o : Option Part). queue_in o k
        ≡ queue order i (entries_in o) (OfKey i (bytes_of k))) (sym
        (set-here parts i s h)) (own by k))
    | inr other ↦ subst (λ (o : Option Part). queue_in o k
        ≡ queue order p (entries_in o) (OfKey p (bytes_of k))) (sym (set-other parts i p s
        (number-is_not p i other))) (is.queued by p k)
  ];
}

-- ---- room

pub more-room : (order : Order) (p : ℕ) (es : List Entry) (ready : List ℕ) (places more : ℕ)
    → IsPart order p es ready places → places ≤ more → IsPart order p es ready more
more-room order p es ready places more is le = record {
  rises = is.rises;
  firsts = is.firsts;
  ready_rises = is.ready_rises;
  sound = is.sound;
  whole = is.whole;
  room = let room = is.room in omega (arith, room, le);
}

-- where each part has what it had
pub shards-kept : (order : Order) (parts more : List Part) → IsShards order parts
    → KeepsParts parts more → IsShards order more
shards-kept order parts more is keeps = record {
  each = λ p. subst (λ es. IsPart order p es (ready_at more p) (room_at more p)) (sym
      (keeps.entries p))
      (subst (λ os. IsPart order p (entries_at parts p) os (room_at more p)) (sym (keeps.ready p))
      (more-room order p (entries_at parts p) (ready_at parts p) (room_at parts p) (room_at more p)
      (is.each p) (keeps.room p)));
  queued = λ by p k. keeps.queues p k ∙ is.queued by p k
      ∙ ap (λ (es : List Entry). queue order p es (OfKey p (bytes_of k)))
      (sym (keeps.entries p));
}

-- what is left as it was of one part changes none
module _ (parts : List Part) (i : ℕ) (s t : Part) (within : i < length parts)
    (own : slice_get parts i ≡ Some s) where
  kept-at : (R : Option Part → Option Part → Type 0) → ((o : Option Part) → R o o)
      → R (Some s) (Some t) → (p : ℕ) → R (slice_get parts p) (slice_get (set parts i t) p)
  kept-at R same here p = elim (cases_Bool (p == i)) [
    | inl is ↦ subst (λ q. R (slice_get parts q) (slice_get (set parts i t) q))
        (sym (number-is p i is))
        (subst (λ o. R o (slice_get (set parts i t) i)) (sym own)
        (subst (λ o. R (Some s) o) (sym (set-here parts i t within)) here))
    | inr other ↦ subst (λ o. R (slice_get parts p) o)
        (sym (set-other parts i p t (number-is_not p i other))) (same (slice_get parts p))
  ]

  pub kept-set : Keeps s t → s.ready.places ≤ t.ready.places
      → KeepsParts parts (set parts i t)
  kept-set keeps room = record {
    entries = kept-at (λ o u. entries_in u ≡ entries_in o) (λ o. refl)
        (ap plain_entries keeps.entries);
    ready = kept-at (λ o u. option_map_or (λ s. s.ready.offsets) u []
        ≡ option_map_or (λ s. s.ready.offsets) o []) (λ o. refl) keeps.ready;
    room = kept-at (λ o u. option_map_or (λ s. s.ready.places) o 0
        ≤ option_map_or (λ s. s.ready.places) u 0) (λ o. omega arith) room;
    queues = λ p k. kept-at (λ o u. queue_in u k ≡ queue_in o k) (λ o. refl) (keeps.queues k) p;
  }

-- an empty part more changes none
module _ (s : Part) where
  pushed-at : (R : Option Part → Option Part → Type 0) → ((o : Option Part) → R o o)
      → R None (Some s) → (parts : List Part) (p : ℕ)
      → R (slice_get parts p) (slice_get (parts ++ s ∷ []) p)
  pushed-at R same here [] zero = here
  pushed-at R same here [] (suc p) = same None
  pushed-at R same here (x ∷ parts) zero = same (Some x)
  pushed-at R same here (x ∷ parts) (suc p) = pushed-at R same here parts p

  pub kept-push : (parts : List Part) → s.entries.items ≡ [] → s.ready.offsets ≡ []
      → ((k : ShardKey) → queue_of s.queues k ≡ []) → KeepsParts parts (parts ++ s ∷ [])
  kept-push parts entries ready queues = record {
    entries = pushed-at (λ o u. entries_in u ≡ entries_in o) (λ o. refl)
        (ap plain_entries entries) parts;
    ready = pushed-at (λ o u. option_map_or (λ s. s.ready.offsets) u []
        ≡ option_map_or (λ s. s.ready.offsets) o []) (λ o. refl) ready parts;
    room = pushed-at (λ o u. option_map_or (λ s. s.ready.places) o 0
        ≤ option_map_or (λ s. s.ready.places) u 0) (λ o. omega arith) (omega arith) parts;
    queues = λ p k. pushed-at (λ o u. queue_in u k ≡ queue_in o k) (λ o. refl) (queues k) parts p;
  }

-- there is room where it was made
pub room-made : (parts : List Part) (i : ℕ) (t : Part) → i < length parts
    → deque_len t.entries < deque_capacity t.entries
    → deque_len t.entries < t.ready.places → HasRoomAt i (set parts i t)
room-made parts i t within places room = record {
  within = let len = length-set parts i t in omega (arith, within, len);
  entries = λ s is. let same : Some t ≡ Some s = sym (set-here parts i t within) ∙ is in
      let at : t ≡ s = cc same in
      subst (λ (u : Part). deque_len u.entries < deque_capacity u.entries) at places;
  ready = λ s is. let same : Some t ≡ Some s = sym (set-here parts i t within) ∙ is in
      let at : t ≡ s = cc same in
      subst (λ (u : Part). deque_len u.entries < u.ready.places) at room;
}

pub kept-then : (a b d : List Part) → KeepsParts a b → KeepsParts b d → KeepsParts a d
kept-then a b d first then = record {
  entries = λ p. then.entries p ∙ first.entries p;
  ready = λ p. then.ready p ∙ first.ready p;
  room = λ p. let x = first.room p in let y = then.room p in omega (arith, x, y);
  queues = λ p k. then.queues p k ∙ first.queues p k;
}

-- the part's state and the queues of other entries, and no less room
pub shards-with : (order : Order) (parts : List Part) (i : ℕ) (s t : Part) → i < length parts
    → IsShards order parts → (es : List Entry) (ready : List ℕ)
    → plain_entries t.entries.items ≡ es → t.ready.offsets ≡ ready
    → s.ready.places ≤ t.ready.places
    → IsPart order i es ready s.ready.places → AreQueued order i es t
    → IsShards order (set parts i t)
shards-with order parts i s t within is es ready entries offsets room part queued =
    shards-set order parts i t within is
    (subst (λ xs. IsPart order i xs t.ready.offsets t.ready.places) (sym entries)
    (subst (λ os. IsPart order i es os t.ready.places) (sym offsets)
    (more-room order i es ready s.ready.places t.ready.places part room)))
    (λ by k. queued by k
    ∙ ap (λ (xs : List Entry). queue order i xs (OfKey i (bytes_of k))) (sym entries))

pub kept-nothing : (order : Order) (parts more : List Part) → KeepsParts parts more
    → ChangesNothing (view order parts) (view order more)
kept-nothing order parts more keeps = record {
  order = refl;
  each = λ p. of-all more p ∙ keeps.entries p ∙ sym (of-all parts p);
}

-- a part without entries
part-empty : (order : Order) (p places : ℕ) → IsPart order p [] [] places
part-empty order p places = record {
  rises = tt;
  firsts = λ e i busy. elim i [ ];
  ready_rises = tt;
  sound = λ o i. elim i [ ];
  whole = λ o is. elim is.has [ ];
  room = omega arith;
}

pub shards-empty : (order : Order) (parts : List Part) (i : ℕ) (t : Part) → i < length parts
    → IsShards order parts → t.entries.items ≡ [] → t.ready.offsets ≡ []
    → ((k : ShardKey) → queue_of t.queues k ≡ []) → IsShards order (set parts i t)
shards-empty order parts i t within is entries ready queues = shards-with order parts i t t within
    is [] [] (ap plain_entries entries) ready (omega arith)
    (part-empty order i t.ready.places) (λ by k. queues k)

-- ---- an offset that is the first of its key

-- the part's state, of which the offset is the first of its ordering key
pub record IsFound (order : Order) (parts : List Part) (i o : ℕ) (s : Part) : Type 0 where
  pub within : i < length parts
  pub own : slice_get parts i ≡ Some s
  pub part : IsPart order i (plain_entries s.entries.items) s.ready.offsets s.ready.places
  pub first : is_first_offset order i (plain_entries s.entries.items) o ≡ true
  pub queued : AreQueued order i (plain_entries s.entries.items) s

-- the queues of a part
pub own-queued : (order : Order) (parts : List Part) (i : ℕ) (s : Part) → IsShards order parts
    → slice_get parts i ≡ Some s → AreQueued order i (plain_entries s.entries.items) s
own-queued order parts i s is own by k = subst (λ (o : Option Part). queue_in o k
    ≡ queue order i (entries_in o) (OfKey i (bytes_of k))) own (is.queued by i k)

-- a test that no entry passes in a part that is not there shows that the part is
own-part : (parts : List Part) (i : ℕ) (s : Part) (test : List Entry → Bool) → test [] ≡ false
    → test (get_or (all_entries parts) i []) ≡ true → s ≡ get_or parts i s
    → (i < length parts) × (slice_get parts i ≡ Some s)
own-part parts i s test none passes at =
    let past : length parts ≤ i → ⊥ = λ h. true-false (test []) (subst (λ es. test es ≡ true)
    (of-all parts i ∙ ap entries_in (slice_get_past parts i h)) passes) none in
    let within : i < length parts = elim (cases_lt i (length parts)) [
      | inl lt ↦ lt
      | inr ge ↦ absurd
          (past ge)
    ] in
    (within, slice_get_read parts (length parts) i s refl within at)

pub found : (order : Order) (parts : List Part) (i o : ℕ) (s : Part)
    → IsShards order parts → is_first_offset order i (of_part (view order parts) i) o ≡ true
    → s ≡ get_or parts i s → IsFound order parts i o s
found order parts i o s is first at =
    let one = own-part parts i s (λ es. is_first_offset order i es o) refl first at in
    let own = one.1 in
    record {
      within = one.0;
      own = own;
      part = subst (λ t. IsPartAt order i t) own (is.each i);
      first = subst (λ es. is_first_offset order i es o ≡ true) (of-all parts i
          ∙ ap entries_in own) first;
      queued = own-queued order parts i s is own;
    }

pub found-holds : (order : Order) (parts : List Part) (i o : ℕ) (s : Part)
    → IsFound order parts i o s
    → Holds o s
found-holds order parts i o s f = let e = first-entry order i
    (plain_entries s.entries.items) o f.first in
    record {
      rises = f.part.rises;
      ready_rises = f.part.ready_rises;
      apart = busy-apart order i (plain_entries s.entries.items) s.ready.offsets s.ready.places o
          f.part;
      has = rw (← e.2) (In-map (λ (x : Entry). x.record.offset) e.0 (plain_entries s.entries.items) e.1);
    }

-- the part's state, which has an entry at the offset
pub record IsThere (order : Order) (parts : List Part) (i o : ℕ) (s : Part) : Type 0 where
  pub within : i < length parts
  pub own : slice_get parts i ≡ Some s
  pub part : IsPart order i (plain_entries s.entries.items) s.ready.offsets s.ready.places
  pub entry : Entry
  pub has : In entry (plain_entries s.entries.items)
  pub at : entry.record.offset ≡ o
  pub queued : AreQueued order i (plain_entries s.entries.items) s

pub there : (order : Order) (parts : List Part) (i o : ℕ) (s : Part)
    → IsShards order parts → has_entry_at o (of_part (view order parts) i) ≡ true
    → s ≡ get_or parts i s → IsThere order parts i o s
there order parts i o s is has at =
    let one = own-part parts i s (λ es. has_entry_at o es) refl has at in
    let some = In-list_any (λ (e : Entry). e.record.offset == o) (plain_entries s.entries.items)
    (subst (λ es. has_entry_at o es ≡ true) (of-all parts i ∙ ap entries_in one.1) has) in
    record {
      within = one.0;
      own = one.1;
      part = subst (λ t. IsPartAt order i t) one.1 (is.each i);
      entry = some.0;
      has = some.1;
      at = number-is some.0.record.offset o some.2;
      queued = own-queued order parts i s is one.1;
    }

pub there-holds : (order : Order) (parts : List Part) (i o : ℕ) (s : Part)
    → IsThere order parts i o s → Holds o s
there-holds order parts i o s f = record {
  rises = f.part.rises;
  ready_rises = f.part.ready_rises;
  apart = busy-apart order i (plain_entries s.entries.items) s.ready.offsets s.ready.places o
      f.part;
  has = rw (← f.at) (In-map (λ (x : Entry). x.record.offset) f.entry (plain_entries s.entries.items)
      f.has);
}

-- where its entry is busy, the offset is the first of its ordering key
pub there-busy : (order : Order) (parts : List Part) (i o : ℕ) (s : Part)
    → IsThere order parts i o s → EachAt o (plain_entries s.entries.items) (λ e. e.is_busy ≡ true)
    → is_first_offset order i (plain_entries s.entries.items) o ≡ true
there-busy order parts i o s f busy = list_any-In (λ (e : Entry). (e.record.offset == o)
    && is_first order i (plain_entries s.entries.items) e) f.entry (plain_entries s.entries.items)
    f.has (and-both (f.entry.record.offset == o) _ (number-same f.entry.record.offset o f.at)
    (f.part.firsts f.entry f.has (busy f.entry f.has f.at)))

-- what clauses see of the part
pub found-view : (order : Order) (parts : List Part) (i o : ℕ) (s : Part)
    → IsFound order parts i o s
    → of_part (view order parts) i ≡ plain_entries s.entries.items
found-view order parts i o s f = of-all parts i ∙ ap entries_in f.own

-- ---- each call

failed-record : (o : ℕ) (e : Entry) → (failed o e).record ≡ e.record
failed-record o e = elim (e.record.offset == o) as (λ c. (cond c (record
    { «record» = e.record; failures = e.failures + 1; is_busy = e.is_busy }) e).record
    ≡ e.record) [ true ↦ refl | false ↦ refl ]

failed-busy : (o : ℕ) (e : Entry) → (failed o e).is_busy ≡ e.is_busy
failed-busy o e = elim (e.record.offset == o) as (λ c. (cond c (record
    { «record» = e.record; failures = e.failures + 1; is_busy = e.is_busy }) e).is_busy
    ≡ e.is_busy) [ true ↦ refl | false ↦ refl ]

-- the queues are those of entries that changed and kept their records
same-queues : (order : Order) (i : ℕ) (s t : Part) → t.queues ≡ s.queues
    → AreQueued order i (plain_entries s.entries.items) s
    → (es : List Entry) → ((k : OrderingKey)
    → queue order i es k ≡ queue order i (plain_entries s.entries.items) k)
    → AreQueued order i es t
same-queues order i s t queues queued es same by k = ap (λ v. queue_of v k) queues ∙ queued by k
    ∙ sym (same (OfKey i (bytes_of k)))

module _ (order : Order) (parts : List Part) (i o : ℕ) (s t : Part)
    (is : IsShards order parts) (f : IsFound order parts i o s)
    (queues : t.queues ≡ s.queues) (room : s.ready.places ≤ t.ready.places) where
  pub shards-busy : plain_entries t.entries.items ≡ with_busy o true (plain_entries s.entries.items)
      → t.ready.offsets ≡ but o s.ready.offsets → IsShards order (set parts i t)
  shards-busy entries ready = shards-with order parts i s t f.within is
      (with_busy o true (plain_entries s.entries.items))
      (but o s.ready.offsets) entries ready room
      (made_busy order i (plain_entries s.entries.items) s.ready.offsets
      s.ready.places o f.part f.first)
      (same-queues order i s t queues f.queued (with_busy o true (plain_entries s.entries.items))
      (queue-with_busy order i o true (plain_entries s.entries.items)))

  -- and those of entries that failed once more
  pub shards-failed : plain_entries t.entries.items
      ≡ with_failure o (plain_entries s.entries.items) → t.ready ≡ s.ready
      → IsShards order (set parts i t)
  shards-failed entries ready = shards-with order parts i s t f.within is
      (with_failure o (plain_entries s.entries.items)) s.ready.offsets entries
      (ap (λ v. v.offsets) ready) room
      (part-changed (failed o) (failed-record o) order i (plain_entries s.entries.items)
      s.ready.offsets s.ready.places (failed-busy o) f.part)
      (same-queues order i s t queues f.queued (with_failure o (plain_entries s.entries.items))
      (queue-changed (failed o) (failed-record o) order i (plain_entries s.entries.items)))

-- there is a place for one that is made free
pub free-place : (order : Order) (parts : List Part) (i o : ℕ) (s : Part)
    → IsThere order parts i o s
    → EachAt o (plain_entries s.entries.items) (λ e. e.is_busy ≡ true)
    → length s.ready.offsets < s.ready.places
free-place order parts i o s f busy = busy-place order i (plain_entries s.entries.items)
    s.ready.offsets s.ready.places o f.part (there-busy order parts i o s f busy) busy

module _ (order : Order) (parts : List Part) (i o : ℕ) (s t : Part)
    (is : IsShards order parts) (f : IsThere order parts i o s)
    (queues : t.queues ≡ s.queues) (room : s.ready.places ≤ t.ready.places) where
  -- all entries at the offset are busy, or none is
  was : EachAt o (plain_entries s.entries.items) (λ e. e.is_busy ≡ true)
      ⊎ EachAt o (plain_entries s.entries.items) (λ e. e.is_busy ≡ false)
  was =
      let one : (x : Entry) → In x (plain_entries s.entries.items) → x.record.offset ≡ o
      → x.is_busy ≡ f.entry.is_busy =
      λ x j at. ap (λ (y : Entry). y.is_busy) (one-entry
      (plain_entries s.entries.items) f.part.rises
      x f.entry j f.has (at ∙ sym f.at)) in
      elim (cases_Bool f.entry.is_busy) [
        | inl busy ↦ inl (λ x j at. one x j at ∙ busy)
        | inr free ↦ inr (λ x j at. one x j at ∙ free)
      ]

  pub shards-free : plain_entries t.entries.items
      ≡ with_busy o false (plain_entries s.entries.items)
      → (EachAt o (plain_entries s.entries.items) (λ e. e.is_busy ≡ true)
      → t.ready.offsets ≡ put o s.ready.offsets)
      → (EachAt o (plain_entries s.entries.items) (λ e. e.is_busy ≡ false)
      → t.ready.offsets ≡ s.ready.offsets)
      → IsShards order (set parts i t)
  shards-free entries ready same = elim was [
    | inl busy ↦ shards-with order parts i s t f.within is
        (with_busy o false (plain_entries s.entries.items))
        (put o s.ready.offsets) entries
        (ready busy) room (made_free order i (plain_entries s.entries.items) s.ready.offsets
        s.ready.places o f.part (there-busy order parts i o s f busy) busy)
        (same-queues order i s t queues f.queued
        (with_busy o false (plain_entries s.entries.items))
        (queue-with_busy order i o false (plain_entries s.entries.items)))
    | inr free ↦ shards-with order parts i s t f.within is (plain_entries s.entries.items)
        s.ready.offsets
        (entries ∙ with_busy-same o false (plain_entries s.entries.items) free)
        (same free) room f.part
        (same-queues order i s t queues f.queued (plain_entries s.entries.items) (λ k. refl))
  ]

-- what clauses see of the part changes as its entries do
pub view-there : (order : Order) (parts : List Part) (i o : ℕ) (s t : Part)
    → IsThere order parts i o s → (change : List Entry → List Entry)
    → plain_entries t.entries.items ≡ change (plain_entries s.entries.items)
    → of_part (view order (set parts i t)) i ≡ change (of_part (view order parts) i)
view-there order parts i o s t f change entries = view-set order parts i t f.within ∙ entries
    ∙ ap change (sym (of-all parts i ∙ ap entries_in f.own))

pub view-changed : (order : Order) (parts : List Part) (i o : ℕ) (s t : Part)
    → IsFound order parts i o s
    → (change : List Entry → List Entry)
    → plain_entries t.entries.items ≡ change (plain_entries s.entries.items)
    → of_part (view order (set parts i t)) i ≡ change (of_part (view order parts) i)
view-changed order parts i o s t f change entries = view-set order parts i t f.within ∙ entries
    ∙ ap change (sym (found-view order parts i o s f))

-- ---- keys

-- the queue of a key goes by its bytes
pub queue_of-same : (queues : Queues) (k l : ShardKey) → bytes_of k ≡ bytes_of l
    → queue_of queues k ≡ queue_of queues l
queue_of-same queues k l same = ap (λ (p : Option (List ℕ)). option_map_or (λ queue. queue.items)
    (get_by (λ (j : ShardKey). same_bytes p (bytes_of j)) queues.map) []) same

-- by the key's bytes, an entry has the ordering key of them
pub by-key : (order : Order) (p : ℕ) (e : Entry) → order ≡ ByKey
    → key_of order p e ≡ OfKey p e.record.key
by-key order p e by = ap (λ (o : Order). key_of o p e) by
