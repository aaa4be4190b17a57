-- The state of a part without an entry that was the first of its ordering key.
use Rattle.std.proofs.Common.{◌≡◌, ◌⊎◌, ℕ, ◌<◌, ◌≤◌, true, false, not, ◌==◌, cond, List, [], ◌∷◌, length, drop, slice_get, Some, None, refl, ap, sym, subst, inl, inr, ◌∙◌, arith}
use Rattle.std.specs.Prelude.{filter}
use Rattle.std.proofs.lemmas.Bool.{cases_Bool}
use Rattle.std.proofs.lemmas.List.{length-map}
use Rattle.pc_model.specs.declared.choices.Order.{Order}
use Rattle.pc_model.specs.Next.{OrderingKey, same_key}
use Rattle.pc_shards.specs.Entries.{Entry, is_first, key_of, without}
use Rattle.pc_shards.specs.Part.{IsPart, IsReady, offsets_of, queue}
use Rattle.pc_shards.specs.Rising.{In, Rises, but, put}
use Rattle.pc_shards.proofs.Lists.{In-filter, In-filtered, In-map, not-false, not-true, number-is, number-is_not, number-other, true-false}
use Rattle.pc_shards.proofs.RisingLemmas.{In-but, In-put, Rises-filter, Rises-map-filter, Rises-put, but-In, but-head, but-none, head-In, length-but_one, put-In}
use Rattle.pc_shards.proofs.PartLemmas.{one-entry}
use Rattle.pc_shards.proofs.ShardKeyLemmas.{same_key-is, same_key-true}
use Rattle.pc_shards.proofs.EntriesLemmas.{In-queue, first-head, first-low, first-some, head-first, length-filter-le, low-first, queue-rises}

queue-without : (order : Order) (p o : ℕ) (es : List Entry) (k : OrderingKey)
    → queue order p (without o es) k ≡ but o (queue order p es k)
queue-without order p o [] k = refl
queue-without order p o (e ∷ es) k = elim (cases_Bool (e.record.offset == o)) [
  | inl at ↦ rw at (elim (same_key k (key_of order p e)) as (λ s. queue order p (without o es) k
      ≡ but o (offsets_of (cond s (e ∷ filter (λ y. same_key k (key_of order p y)) es)
      (filter (λ y. same_key k (key_of order p y)) es)))) [
        | true ↦ rw at (queue-without order p o es k)
        | false ↦ queue-without order p o es k
      ])
  | inr off ↦ rw off (elim (same_key k (key_of order p e)) as (λ s.
      offsets_of (cond s (e ∷ filter (λ y. same_key k (key_of order p y)) (without o es))
      (filter (λ y. same_key k (key_of order p y)) (without o es)))
      ≡ but o (offsets_of (cond s (e ∷ filter (λ y. same_key k (key_of order p y)) es)
      (filter (λ y. same_key k (key_of order p y)) es)))) [
        | true ↦ rw off (ap (λ os. e.record.offset ∷ os) (queue-without order p o es k))
        | false ↦ queue-without order p o es k
      ])
]

module _ (order : Order) (p : ℕ) (es : List Entry) (ready : List ℕ) (places o : ℕ)
    (is : IsPart order p es ready places) (f : Entry) (has : In f es) (at : f.record.offset ≡ o)
    (first : is_first order p es f ≡ true) where
  left : (e : Entry) → In e (without o es) → In e es × ((e.record.offset == o) ≡ false)
  left e i = let m = In-filtered (λ (x : Entry). not (x.record.offset == o)) e es i in
      (m.0, not-true (e.record.offset == o) m.1)

  stays : (e : Entry) → In e es → (e.record.offset == o) ≡ false → In e (without o es)
  stays e i off = In-filter (λ (x : Entry). not (x.record.offset == o)) e es i (not-false
      (e.record.offset == o) off)

  rises-left : Rises (offsets_of (without o es))
  rises-left = Rises-map-filter (λ (x : Entry). x.record.offset) (λ x. not (x.record.offset == o)) es is.rises

  first-left : (e : Entry) → is_first order p es e ≡ true → is_first order p (without o es) e ≡ true
  first-left e fi = first-some order p es (without o es) e (λ q i. (left q i).0) fi

  -- the queue of its key has its first taken out
  pub queue-done : queue order p (without o es) (key_of order p f)
      ≡ drop 1 (queue order p es (key_of order p f))
  queue-done = queue-without order p o es (key_of order p f)
      ∙ but-head o (queue order p es (key_of order p f))
      (queue-rises order p es (key_of order p f) is.rises)
      (first-head order p es f is.rises has first ∙ ap Some at)

  -- and the others stay
  pub queue-others : (k : OrderingKey) → same_key (key_of order p f) k ≡ false
      → queue order p (without o es) k ≡ queue order p es k
  queue-others k other = queue-without order p o es k ∙ but-none o (queue order p es k) (λ u i.
      let q = In-queue order p es k u i in
      number-other u o (λ same. true-false (same_key (key_of order p f) k)
      (same_key-is (key_of order p f) k (ap (key_of order p) (one-entry es is.rises f q.0 has q.1
      (at ∙ sym same ∙ q.2)) ∙ sym q.3)) other))

  -- the one that is then first of the key was not first before
  next-entry : (n : ℕ) → slice_get (queue order p (without o es) (key_of order p f)) 0 ≡ Some n
      → IsReady order p (without o es) n × (In n ready → ⊥)
  next-entry n head =
      let q = In-queue order p (without o es) (key_of order p f) n
      (head-In n (queue order p (without o es) (key_of order p f)) head) in
      let l = left q.0 q.1 in
      let low : is_first order p es q.0 ≡ true → ⊥ = λ fi.
      let le = first-low order p es q.0 fi f has q.3 in
      let ge = first-low order p es f first q.0 l.0 (sym q.3) in
      number-is_not q.0.record.offset o l.1 (omega (arith, le, ge, at)) in (
        record {
          entry = q.0;
          has = q.1;
          at = sym q.2;
          first = head-first order p (without o es) q.0 rises-left
              (subst (λ k. slice_get (queue order p (without o es) k) 0 ≡ Some q.0.record.offset) q.3
              (head ∙ ap Some q.2));
          free = elim (cases_Bool q.0.is_busy) [
            | inl busy ↦ absurd (low (is.firsts q.0 l.0 busy))
            | inr free ↦ free
          ];
        },
        λ i. let r = is.sound n i in
            low (rw (one-entry es is.rises q.0 r.entry l.0 r.has (sym q.2 ∙ sym r.at)) r.first),
      )

  -- of the others, the ready ones stay so
  still : (u : ℕ) → In u (but o ready) → IsReady order p (without o es) u
  still u i = let j = In-but u o ready i in
      let r = is.sound u j.0 in
      record {
        entry = r.entry;
        has = stays r.entry r.has (subst (λ n. (n == o) ≡ false) (sym r.at) j.1);
        at = r.at;
        first = first-left r.entry r.first;
        free = r.free;
      }

  -- and what is ready afterwards was so, or is the next of the key
  was : (u : ℕ) → IsReady order p (without o es) u → In u (but o ready)
      ⊎ (slice_get (queue order p (without o es) (key_of order p f)) 0 ≡ Some u)
  was u r = let l = left r.entry r.has in
      elim (cases_Bool (same_key (key_of order p f) (key_of order p r.entry))) [
        | inl same ↦ let key = same_key-true (key_of order p f) (key_of order p r.entry) same in
            inr (subst (λ k. slice_get (queue order p (without o es) k) 0 ≡ Some u) (sym key)
            (first-head order p (without o es) r.entry rises-left r.has r.first ∙ ap Some r.at))
        | inr other ↦ inl (but-In u o ready (is.whole u (record {
          entry = r.entry;
          has = l.0;
          at = r.at;
          first = low-first order p es r.entry (λ q i same. elim (cases_Bool (q.record.offset == o)) [
            | inl here ↦ true-false (same_key (key_of order p f) (key_of order p r.entry))
                (same_key-is (key_of order p f) (key_of order p r.entry) (ap (key_of order p)
                (one-entry es is.rises f q has i (at ∙ sym (number-is q.record.offset o here)))
                ∙ same)) other
            | inr off ↦ first-low order p (without o es) r.entry r.first q (stays q i off) same
          ]);
          free = r.free;
        })) (subst (λ n. (n == o) ≡ false) r.at l.1))
      ]

  room-left : length (without o es) ≤ places
  room-left = let le = length-filter-le (λ (x : Entry). not (x.record.offset == o)) es in
      let room = is.room in omega (arith, le, room)

  busy-left : (e : Entry) → In e (without o es) → e.is_busy ≡ true
      → is_first order p (without o es) e ≡ true
  busy-left e i busy = first-left e (is.firsts e (left e i).0 busy)

  -- the last of its key leaves nothing ready behind
  pub done-last : slice_get (queue order p (without o es) (key_of order p f)) 0 ≡ None
      → IsPart order p (without o es) (but o ready) places
  done-last none = record {
    rises = rises-left;
    firsts = busy-left;
    ready_rises = Rises-filter (λ x. not (x == o)) ready is.ready_rises;
    sound = still;
    whole = λ u r. elim (was u r) [
      | inl i ↦ i
      | inr head ↦ let e = sym none ∙ head in cc
    ];
    room = room-left;
  }

  module _ (n : ℕ) (head : slice_get (queue order p (without o es) (key_of order p f)) 0
      ≡ Some n) where
    pub next-apart : In n (but o ready) → ⊥
    next-apart i = (next-entry n head).1 (In-but n o ready i).0

    -- there is a place for the next of the key
    pub next-place : length (but o ready) < places
    next-place =
        let r = (next-entry n head).0 in
        let few = length-but_one n (but o ready) (offsets_of (without o es))
        (Rises-filter (λ x. not (x == o)) ready is.ready_rises) rises-left
        (λ u i. let s = still u i in rw (← s.at) (In-map (λ (y : Entry). y.record.offset) s.entry
        (without o es) s.has))
        (rw (← r.at) (In-map (λ (y : Entry). y.record.offset) r.entry (without o es) r.has))
        next-apart in
        let len = length-map (without o es) (λ (y : Entry). y.record.offset) in
        let room = room-left in omega (arith, few, len, room)

    -- which is ready then
    pub done-next : IsPart order p (without o es) (put n (but o ready)) places
    done-next = record {
      rises = rises-left;
      firsts = busy-left;
      ready_rises = Rises-put n (but o ready) (Rises-filter (λ x. not
          (x == o)) ready is.ready_rises) next-apart;
      sound = λ u i. elim (In-put u n (but o ready) i) [
        | inl same ↦ subst (λ v. IsReady order p (without o es) v) (sym same) (next-entry n head).0
        | inr j ↦ still u j
      ];
      whole = λ u r. put-In u n (but o ready) (elim (was u r) [
        | inl i ↦ inr i
        | inr other ↦ let e : Some u ≡ Some n = sym other ∙ head in let same : u ≡ n = cc in inl
            same
      ]);
      room = room-left;
    }
