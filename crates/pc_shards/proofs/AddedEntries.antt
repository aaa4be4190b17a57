-- The state of a part with one more entry.
use Rattle.std.proofs.Common.{◌≡◌, ℕ, ◌<◌, true, false, cond, List, [], ◌∷◌, ◌++◌, length, refl, ap, sym, subst, inl, inr, ◌∙◌, arith}
use Rattle.std.specs.Prelude.{filter}
use Rattle.std.proofs.lemmas.List.{map-append}
use Rattle.pc_model.specs.declared.choices.Order.{Order}
use Rattle.pc_model.specs.Next.{OrderingKey, same_key}
use Rattle.pc_shards.specs.Entries.{Entry, is_first, key_of}
use Rattle.pc_shards.specs.Part.{IsPart, offsets_of, queue}
use Rattle.pc_shards.specs.Rising.{In, Rises}
use Rattle.pc_shards.proofs.Lists.{In-append, In-append_left, In-append_right, In-mapped, true-false}
use Rattle.pc_shards.proofs.RisingLemmas.{In-some, Rises-push, some-In}
use Rattle.pc_shards.proofs.EntriesLemmas.{In-queue, first-low, first-some, length-push, low-first, queue-In}

module _ (order : Order) (p : ℕ) (es : List Entry) (e : Entry)
    (above : (q : Entry) → In q es → q.record.offset < e.record.offset) where
  pub first-push : (x : Entry) → In x es → is_first order p es x ≡ true
      → is_first order p (es ++ e ∷ []) x ≡ true
  first-push x i first = low-first order p (es ++ e ∷ []) x (λ q j same. elim (In-append q es
      (e ∷ []) j) [
        | inl k ↦ first-low order p es x first q k same
        | inr k ↦ elim k [
          | inl is ↦ let lt = above x i in
              let at : q.record.offset ≡ e.record.offset = ap (λ (y : Entry). y.record.offset) is in
              omega (arith, lt, at)
          | inr none ↦ elim none [ ]
        ]
      ])

  pub first-pushed : (x : Entry) → is_first order p (es ++ e ∷ []) x ≡ true
      → is_first order p es x ≡ true
  first-pushed x first = first-some order p (es ++ e ∷ []) es x (λ q i. In-append_left q es
      (e ∷ []) i) first

  pub queue-push : (k : OrderingKey) → queue order p (es ++ e ∷ []) k
      ≡ queue order p es k ++ cond (same_key k (key_of order p e)) (e.record.offset ∷ []) []
  queue-push k = pushed es
    where
      pushed : (xs : List Entry) → queue order p (xs ++ e ∷ []) k
          ≡ queue order p xs k ++ cond (same_key k (key_of order p e)) (e.record.offset ∷ []) []
      pushed [] = elim (same_key k (key_of order p e)) as (λ b. offsets_of (cond b (e ∷ []) [])
          ≡ cond b (e.record.offset ∷ []) [])
          [ true ↦ refl | false ↦ refl ]
      pushed (x ∷ xs) = elim (same_key k (key_of order p x)) as (λ b. offsets_of (cond b
          (x ∷ filter (λ y. same_key k (key_of order p y)) (xs ++ e ∷ [])) (filter (λ y. same_key k
          (key_of order p y)) (xs ++ e ∷ [])))
          ≡ offsets_of (cond b (x ∷ filter (λ y. same_key k (key_of order p y)) xs) (filter
          (λ y. same_key k (key_of order p y)) xs))
          ++ cond (same_key k (key_of order p e)) (e.record.offset ∷ []) [])
          [ true ↦ ap (λ os. x.record.offset ∷ os) (pushed xs) | false ↦ pushed xs ]

  rises-push : Rises (offsets_of es) → Rises (offsets_of (es ++ e ∷ []))
  rises-push r = subst Rises (sym (map-append (λ (x : Entry). x.record.offset) es (e ∷ [])))
      (Rises-push e.record.offset (offsets_of es) r (λ o i. let m = In-mapped (λ
      (x : Entry). x.record.offset) o es i in
      let lt = above m.0 m.1 in let is = m.2 in omega (arith, lt, is)))

  -- an entry more whose key has no other is ready
  pub added-first : (ready : List ℕ) (places more : ℕ) → IsPart order p es ready places
      → e.is_busy ≡ false
      → length (queue order p es (key_of order p e)) ≡ 0 → length es < more
      → IsPart order p (es ++ e ∷ []) (ready ++ e.record.offset ∷ []) more
  added-first ready places more is free none room =
      let first : is_first order p (es ++ e ∷ []) e ≡ true = low-first order p (es ++ e ∷ []) e (λ q
      j same.
      elim (In-append q es (e ∷ []) j) [
        | inl k ↦ let some = In-some q.record.offset (queue order p es (key_of order p e))
            (queue-In order p es (key_of order p e) q k (sym same)) in
            absurd (omega (arith, some, none))
        | inr k ↦ elim k [
          | inl at ↦ let at : q.record.offset ≡ e.record.offset = ap (λ (y : Entry). y.record.offset) at in
              omega (arith, at)
          | inr no_more ↦ elim no_more [ ]
        ]
      ]) in
      record {
        rises = rises-push is.rises;
        firsts = λ x j busy. elim (In-append x es (e ∷ []) j) [
          | inl k ↦ first-push x k (is.firsts x k busy)
          | inr k ↦ elim k [ inl at ↦ rw at first | inr no_more ↦ elim no_more [ ] ]
        ];
        ready_rises = Rises-push e.record.offset ready is.ready_rises (λ o i. let r = is.sound o i in
            let lt = above r.entry r.has in let at = r.at in omega (arith, lt, at));
        sound = λ o i. elim (In-append o ready (e.record.offset ∷ []) i) [
          | inl k ↦ let r = is.sound o k in record {
            entry = r.entry;
            has = In-append_left r.entry es (e ∷ []) r.has;
            at = r.at;
            first = first-push r.entry r.has r.first;
            free = r.free;
          }
          | inr k ↦ elim k [
            | inl at ↦ record {
              entry = e;
              has = In-append_right e es (e ∷ []) (inl refl);
              at = sym at;
              first = first;
              free = free;
            }
            | inr no_more ↦ elim no_more [ ]
          ]
        ];
        whole = λ o r. elim (In-append r.entry es (e ∷ []) r.has) [
          | inl k ↦ In-append_left o ready (e.record.offset ∷ []) (is.whole o (record {
            entry = r.entry;
            has = k;
            at = r.at;
            first = first-pushed r.entry r.first;
            free = r.free;
          }))
          | inr k ↦ elim k [
            | inl at ↦ In-append_right o ready (e.record.offset ∷ []) (inl (sym r.at
                ∙ ap (λ (y : Entry). y.record.offset) at))
            | inr no_more ↦ elim no_more [ ]
          ]
        ];
        room = omega (arith, room, length-push es e);
      }

  -- and one behind others of its key is not
  pub added-behind : (ready : List ℕ) (places more : ℕ) → IsPart order p es ready places
      → e.is_busy ≡ false
      → 0 < length (queue order p es (key_of order p e)) → length es < more
      → IsPart order p (es ++ e ∷ []) ready more
  added-behind ready places more is free some room =
      let o = some-In (queue order p es (key_of order p e)) some in
      let q = In-queue order p es (key_of order p e) o.0 o.1 in
      record {
        rises = rises-push is.rises;
        firsts = λ x j busy. elim (In-append x es (e ∷ []) j) [
          | inl k ↦ first-push x k (is.firsts x k busy)
          | inr k ↦ elim k [
            | inl at ↦ true-false x.is_busy busy (ap (λ (y : Entry). y.is_busy) at ∙ free)
            | inr no_more ↦ elim no_more [ ]
          ]
        ];
        ready_rises = is.ready_rises;
        sound = λ o i. let r = is.sound o i in record {
          entry = r.entry;
          has = In-append_left r.entry es (e ∷ []) r.has;
          at = r.at;
          first = first-push r.entry r.has r.first;
          free = r.free;
        };
        whole = λ u r. elim (In-append r.entry es (e ∷ []) r.has) [
          | inl k ↦ is.whole u (record {
            entry = r.entry;
            has = k;
            at = r.at;
            first = first-pushed r.entry r.first;
            free = r.free;
          })
          | inr k ↦ elim k [
            | inl at ↦ let le = first-low order p (es ++ e ∷ []) r.entry r.first q.0
                (In-append_left q.0 es (e ∷ []) q.1)
                (sym q.3 ∙ ap (key_of order p) (sym at)) in
                let lt = above q.0 q.1 in
                let here : r.entry.record.offset ≡ e.record.offset = ap (λ (y : Entry). y.record.offset) at in
                absurd (omega (arith, le, lt, here))
            | inr no_more ↦ elim no_more [ ]
          ]
        ];
        room = omega (arith, room, length-push es e);
      }
