-- Entries of which each is changed and keeps its record.
use Rattle.std.proofs.Common.{◌≡◌, ℕ, ◌≤◌, true, false, cond, List, [], ◌∷◌, map, length, refl, ap, sym, subst, ◌∙◌, arith}
use Rattle.std.specs.Prelude.{filter}
use Rattle.std.proofs.lemmas.List.{length-map}
use Rattle.pc_model.specs.declared.choices.Order.{Order}
use Rattle.pc_model.specs.Next.{OrderingKey, ordering_key, same_key}
use Rattle.pc_model.specs.Record.{Record}
use Rattle.pc_shards.specs.Entries.{Entry, is_first, key_of}
use Rattle.pc_shards.specs.Part.{IsPart, offsets_of, queue}
use Rattle.pc_shards.specs.Rising.{Rises}
use Rattle.pc_shards.proofs.Lists.{In-map, In-mapped}
use Rattle.pc_shards.proofs.EntriesLemmas.{first-low, low-first}

module _ (change : Entry → Entry) (same : (e : Entry) → (change e).record ≡ e.record) where
  pub changed-offset : (e : Entry) → (change e).record.offset ≡ e.record.offset
  changed-offset e = ap (λ (r : Record). r.offset) (same e)

  pub changed-key : (order : Order) (p : ℕ) (e : Entry)
      → key_of order p (change e) ≡ key_of order p e
  changed-key order p e = ap (λ (r : Record). ordering_key order p r) (same e)

  pub offsets-changed : (es : List Entry) → offsets_of (map change es) ≡ offsets_of es
  offsets-changed [] = refl
  offsets-changed (e ∷ es) = rw (changed-offset e, offsets-changed es) refl

  pub rises-changed : (es : List Entry) → Rises (offsets_of es)
      → Rises (offsets_of (map change es))
  rises-changed es r = subst Rises (sym (offsets-changed es)) r

  pub room-changed : (es : List Entry) (places : ℕ) → length es ≤ places
      → length (map change es) ≤ places
  room-changed es places room = rw (length-map es change) room

  module _ (order : Order) (p : ℕ) where
    -- no queue changes
    pub queue-changed : (es : List Entry) (k : OrderingKey)
        → queue order p (map change es) k ≡ queue order p es k
    queue-changed [] k = refl
    queue-changed (e ∷ es) k = rw (changed-key order p e) (elim (same_key k
        (key_of order p e)) as
        (λ c. offsets_of (cond c (change e ∷ filter (λ y. same_key k (key_of order p y))
        (map change es))
        (filter (λ y. same_key k (key_of order p y)) (map change es)))
        ≡ offsets_of (cond c (e ∷ filter (λ y. same_key k (key_of order p y)) es)
        (filter (λ y. same_key k (key_of order p y)) es))) [
          | true ↦ rw (changed-offset e, queue-changed es k) refl
          | false ↦ queue-changed es k
        ])

    pub first-changed : (es : List Entry) (e : Entry) → is_first order p es e ≡ true
        → is_first order p (map change es) (change e) ≡ true
    first-changed es e first = low-first order p (map change es) (change e) (λ q i keys.
        let m = In-mapped change q es i in
        let like : key_of order p m.0 ≡ key_of order p e = sym (changed-key order p m.0)
        ∙ ap (key_of order p) (sym m.2) ∙ keys ∙ changed-key order p e in
        let le = first-low order p es e first m.0 m.1 like in
        let at : q.record.offset ≡ m.0.record.offset = ap (λ (y : Entry). y.record.offset) m.2
        ∙ changed-offset m.0 in
        let here = changed-offset e in omega (arith, le, at, here))

    pub first-unchanged : (es : List Entry) (e : Entry)
        → is_first order p (map change es) (change e) ≡ true → is_first order p es e ≡ true
    first-unchanged es e first = low-first order p es e (λ q i keys.
        let like : key_of order p (change q) ≡ key_of order p (change e) =
        changed-key order p q ∙ keys ∙ sym (changed-key order p e) in
        let le = first-low order p (map change es) (change e) first (change q)
        (In-map change q es i) like in
        let at = changed-offset q in
        let here = changed-offset e in omega (arith, le, at, here))

    -- where what is busy stays so, the state is that of the changed entries
    pub part-changed : (es : List Entry) (ready : List ℕ) (places : ℕ)
        → ((e : Entry) → (change e).is_busy ≡ e.is_busy)
        → IsPart order p es ready places → IsPart order p (map change es) ready places
    part-changed es ready places busy is = record {
      rises = rises-changed es is.rises;
      firsts = λ x i b. let m = In-mapped change x es i in
          rw m.2 (first-changed es m.0 (is.firsts m.0 m.1 (sym (busy m.0)
          ∙ ap (λ (y : Entry). y.is_busy) (sym m.2) ∙ b)));
      ready_rises = is.ready_rises;
      sound = λ o i. let r = is.sound o i in record {
        entry = change r.entry;
        has = In-map change r.entry es r.has;
        at = changed-offset r.entry ∙ r.at;
        first = first-changed es r.entry r.first;
        free = busy r.entry ∙ r.free;
      };
      whole = λ o r. let m = In-mapped change r.entry es r.has in is.whole o (record {
        entry = m.0;
        has = m.1;
        at = sym (changed-offset m.0) ∙ ap (λ (y : Entry). y.record.offset) (sym m.2) ∙ r.at;
        first = first-unchanged es m.0 (rw (← m.2) r.first);
        free = sym (busy m.0) ∙ ap (λ (y : Entry). y.is_busy) (sym m.2) ∙ r.free;
      });
      room = room-changed es places is.room;
    }
