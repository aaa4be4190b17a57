-- The first of an ordering key, its queue, and which offsets are ready.
use Rattle.std.proofs.Common.{◌≡◌, ℕ, suc, ◌<◌, ◌≤◌, Bool, true, false, not, ◌&&◌, ◌==◌, cond, ltb, List, [], ◌∷◌, ◌++◌, length, slice_get, Some, refl, ap, sym, subst, inl, inr, arith}
use Rattle.std.specs.Prelude.{filter}
use Rattle.std.proofs.lemmas.Bool.{cases_Bool, cases_lt}
use Rattle.std.proofs.lemmas.Bool.Decides.{nat_tests}
use Rattle.std.proofs.lemmas.List.{length-map}
use Rattle.pc_model.specs.declared.choices.Order.{Order}
use Rattle.pc_model.specs.Next.{OrderingKey, same_key}
use Rattle.pc_shards.specs.Entries.{Entry, is_before, is_first, is_first_offset, key_of, least_ready_of, ready_offsets}
use Rattle.pc_shards.specs.Part.{IsPart, IsReady, offsets_of, queue}
use Rattle.pc_shards.specs.Rising.{In, Rises}
use Rattle.pc_shards.proofs.Lists.{In-filter, In-filtered, In-list_any, In-map, In-mapped, and-both, and-left, and-right, list_all-In, list_all-each, not-false, not-true, number-is, true-false}
use Rattle.pc_shards.proofs.RisingLemmas.{Rises-map-filter, head-is, head-low, least_of-first, least_of-none, length-among}
use Rattle.pc_shards.proofs.ShardKeyLemmas.{same_key-is, same_key-true}

pub ltb-is : (m n : ℕ) → m < n → ltb m n ≡ true
ltb-is m n h = grind (arith, nat_tests)

pub ltb-not : (m n : ℕ) → n ≤ m → ltb m n ≡ false
ltb-not m n h = grind (arith, nat_tests)

pub length-filter-le : {X : Type 0} (t : X → Bool) (xs : List X) → length (filter t xs) ≤ length xs
length-filter-le t [] = omega arith
length-filter-le t (x ∷ xs) = let le = length-filter-le t xs in elim (t x) as
    (λ b. length (cond b (x ∷ filter t xs) (filter t xs)) ≤ suc (length xs))
    [ true ↦ omega (arith, le) | false ↦ omega (arith, le) ]

pub length-push : (es : List Entry) (e : Entry) → length (es ++ e ∷ []) ≡ suc (length es)
length-push [] e = refl
length-push (x ∷ es) e = ap suc (length-push es e)

-- ---- the first of an ordering key

module _ (order : Order) (p : ℕ) (es : List Entry) where
  -- no entry of the first's key is below it
  pub first-low : (e : Entry) → is_first order p es e ≡ true → (q : Entry) → In q es
      → key_of order p q ≡ key_of order p e → e.record.offset ≤ q.record.offset
  first-low e first q i same = elim (cases_lt q.record.offset e.record.offset) [
    | inl lt ↦ true-false (is_before order p q e)
        (and-both (ltb q.record.offset e.record.offset) (same_key (key_of order p q) (key_of order p e))
        (ltb-is q.record.offset e.record.offset lt) (same_key-is (key_of order p q) (key_of order p e) same))
        (not-true (is_before order p q e)
        (list_all-In (λ (x : Entry). not (is_before order p x e)) q es first i))
    | inr le ↦ le
  ]

  pub low-first : (e : Entry) → ((q : Entry) → In q es → key_of order p q ≡ key_of order p e
      → e.record.offset ≤ q.record.offset) → is_first order p es e ≡ true
  low-first e low = list_all-each (λ (x : Entry). not (is_before order p x e)) es (λ q i.
      not-false (is_before order p q e) (elim (cases_Bool (is_before order p q e)) [
        | inl t ↦ let le = low q i (same_key-true (key_of order p q) (key_of order p e)
            (and-right (ltb q.record.offset e.record.offset) (same_key (key_of order p q)
            (key_of order p e)) t)) in
            true-false (ltb q.record.offset e.record.offset)
            (and-left (ltb q.record.offset e.record.offset) (same_key (key_of order p q) (key_of order p e)) t)
            (ltb-not q.record.offset e.record.offset le)
        | inr f ↦ f
      ]))

  -- the entry of an offset that is the first of its key
  pub first-entry : (o : ℕ) → is_first_offset order p es o ≡ true
      → (e : Entry) × In e es × (e.record.offset ≡ o) × (is_first order p es e ≡ true)
  first-entry o is = let m = In-list_any (λ (e : Entry). (e.record.offset == o) && is_first order p es e)
      es is in (
        m.0,
        m.1,
        number-is m.0.record.offset o (and-left (m.0.record.offset == o) (is_first order p es m.0) m.2),
        and-right (m.0.record.offset == o) (is_first order p es m.0) m.2,
      )

  -- ---- the queue of a key

  pub queue-In : (k : OrderingKey) (e : Entry) → In e es → k ≡ key_of order p e
      → In e.record.offset (queue order p es k)
  queue-In k e i same = In-map (λ (x : Entry). x.record.offset) e (filter (λ x. same_key k
      (key_of order p x)) es)
      (In-filter (λ (x : Entry). same_key k (key_of order p x)) e es i (same_key-is k
      (key_of order p e) same))

  pub In-queue : (k : OrderingKey) (o : ℕ) → In o (queue order p es k)
      → (e : Entry) × In e es × (o ≡ e.record.offset) × (k ≡ key_of order p e)
  In-queue k o i = let m = In-mapped (λ (x : Entry). x.record.offset) o (filter (λ x. same_key k
      (key_of order p x)) es) i in
      let f = In-filtered (λ (x : Entry). same_key k (key_of order p x)) m.0 es m.1 in
      (m.0, f.0, m.2, same_key-true k (key_of order p m.0) f.1)

  pub queue-rises : (k : OrderingKey) → Rises (offsets_of es) → Rises (queue order p es k)
  queue-rises k r = Rises-map-filter (λ (x : Entry). x.record.offset) (λ x. same_key k
      (key_of order p x)) es r

  -- the first of a key is the first of its queue
  pub first-head : (e : Entry) → Rises (offsets_of es) → In e es → is_first order p es e ≡ true
      → slice_get (queue order p es (key_of order p e)) 0 ≡ Some e.record.offset
  first-head e r i first = head-is e.record.offset (queue order p es (key_of order p e))
      (queue-rises (key_of order p e) r) (queue-In (key_of order p e) e i refl) (λ o j.
      let q = In-queue (key_of order p e) o j in
      let le = first-low e first q.0 q.1 (sym q.3) in
      let is = q.2 in omega (arith, le, is))

  pub head-first : (e : Entry) → Rises (offsets_of es)
      → slice_get (queue order p es (key_of order p e)) 0 ≡ Some e.record.offset
      → is_first order p es e ≡ true
  head-first e r head = low-first e (λ q i same. head-low e.record.offset (queue order p es
      (key_of order p e))
      (queue-rises (key_of order p e) r) head q.record.offset (queue-In (key_of order p e) q i (sym same)))

  -- ---- what is ready

  pub ready-In : (o : ℕ) → IsReady order p es o → In o (ready_offsets order p es)
  ready-In o is = subst (λ u. In u (ready_offsets order p es)) is.at
      (In-map (λ (x : Entry). x.record.offset) is.entry (filter
      (λ x. is_first order p es x && not x.is_busy) es)
      (In-filter (λ (x : Entry). is_first order p es x && not x.is_busy) is.entry es is.has
      (and-both (is_first order p es is.entry) (not is.entry.is_busy) is.first
      (not-false is.entry.is_busy is.free))))

  pub In-ready : (o : ℕ) → In o (ready_offsets order p es) → IsReady order p es o
  In-ready o i = let m = In-mapped (λ (x : Entry). x.record.offset) o
      (filter (λ x. is_first order p es x && not x.is_busy) es) i in
      let f = In-filtered (λ (x : Entry). is_first order p es x && not x.is_busy) m.0 es m.1 in
      record {
        entry = m.0;
        has = f.0;
        at = sym m.2;
        first = and-left (is_first order p es m.0) (not m.0.is_busy) f.1;
        free = not-true m.0.is_busy (and-right (is_first order p es m.0) (not m.0.is_busy) f.1);
      }

  -- the least is the first of the ready offsets
  pub least_ready-first : (ready : List ℕ) (places : ℕ) → IsPart order p es ready places
      → slice_get ready 0 ≡ least_ready_of order p es
  least_ready-first [] places is = sym (least_of-none (ready_offsets order p es) (λ o i.
      is.whole o (In-ready o i)))
  least_ready-first (o ∷ rest) places is = sym (least_of-first
      (ready_offsets order p es) o rest is.ready_rises
      (λ u i. ready-In u (is.sound u i)) (λ u i. is.whole u (In-ready u i)))

-- not more are ready than there are entries
pub ready-few : (order : Order) (p : ℕ) (es : List Entry) (ready : List ℕ) (places : ℕ)
    → IsPart order p es ready places → length ready ≤ length es
ready-few order p es ready places is =
    let few = length-among ready (offsets_of es) is.ready_rises is.rises
    (λ u i. let r = is.sound u i in
    rw (← r.at) (In-map (λ (y : Entry). y.record.offset) r.entry es r.has)) in
    let len = length-map es (λ (y : Entry). y.record.offset) in omega (arith, few, len)

-- what is first among entries is first among some of them
pub first-some : (order : Order) (p : ℕ) (es fs : List Entry) (e : Entry) → ((q : Entry) → In q fs
    → In q es)
    → is_first order p es e ≡ true → is_first order p fs e ≡ true
first-some order p es fs e some first = low-first order p fs e (λ q i same.
    first-low order p es e first q (some q i) same)
