-- The state of a part of which an entry is made busy or free.
use Rattle.std.proofs.Common.{◌≡◌, ℕ, ◌<◌, ◌≤◌, Bool, true, false, not, ◌==◌, cond, List, [], ◌∷◌, length, refl, ap, sym, subst, inl, inr, ◌∙◌, arith}
use Rattle.std.proofs.lemmas.Bool.{cases_Bool}
use Rattle.std.proofs.lemmas.List.{length-map}
use Rattle.pc_model.specs.declared.choices.Order.{Order}
use Rattle.pc_model.specs.Next.{OrderingKey}
use Rattle.pc_shards.specs.Entries.{Entry, is_first, is_first_offset, marked, with_busy}
use Rattle.pc_shards.specs.Part.{EachAt, IsPart, offsets_of, queue}
use Rattle.pc_shards.specs.Rising.{In, Rises, but, put}
use Rattle.pc_shards.proofs.Lists.{In-map, In-mapped, number-is, number-same, true-false}
use Rattle.pc_shards.proofs.RisingLemmas.{In-but, In-put, Rises-filter, Rises-put, but-In, length-but_one, put-In}
use Rattle.pc_shards.proofs.PartLemmas.{one-entry}
use Rattle.pc_shards.proofs.EntriesLemmas.{first-entry}
use Rattle.pc_shards.proofs.ChangedEntries.{changed-offset, first-changed, first-unchanged, queue-changed, rises-changed, room-changed}

pub marked-record : (o : ℕ) (b : Bool) (e : Entry) → (marked o b e).record ≡ e.record
marked-record o b e = elim (e.record.offset == o) as (λ c. (cond c (record
    { «record» = e.record; failures = e.failures; is_busy = b }) e).record
    ≡ e.record) [ true ↦ refl | false ↦ refl ]

pub marked-offset : (o : ℕ) (b : Bool) (e : Entry) → (marked o b e).record.offset ≡ e.record.offset
marked-offset o b e = changed-offset (marked o b) (marked-record o b) e

marked-at : (o : ℕ) (b : Bool) (e : Entry) → (e.record.offset == o) ≡ true
    → (marked o b e).is_busy ≡ b
marked-at o b e at = ap (λ c. (cond c (record
    { «record» = e.record; failures = e.failures; is_busy = b }) e).is_busy) at

marked-off : (o : ℕ) (b : Bool) (e : Entry) → (e.record.offset == o) ≡ false → marked o b e ≡ e
marked-off o b e off = ap (λ c. cond c (record
    { «record» = e.record; failures = e.failures; is_busy = b }) e) off

-- no queue changes
pub queue-with_busy : (order : Order) (p o : ℕ) (b : Bool) (es : List Entry) (k : OrderingKey)
    → queue order p (with_busy o b es) k ≡ queue order p es k
queue-with_busy order p o b es k = queue-changed (marked o b) (marked-record o b) order p es k

module _ (order : Order) (p : ℕ) (es : List Entry) (o : ℕ) (b : Bool) where
  pub first-marked : (e : Entry) → is_first order p es e ≡ true
      → is_first order p (with_busy o b es) (marked o b e) ≡ true
  first-marked e first = first-changed (marked o b) (marked-record o b) order p es e first

  first-unmarked : (e : Entry) → is_first order p (with_busy o b es) (marked o b e) ≡ true
      → is_first order p es e ≡ true
  first-unmarked e first = first-unchanged (marked o b) (marked-record o b) order p es e first

  rises-marked : Rises (offsets_of es) → Rises (offsets_of (with_busy o b es))
  rises-marked r = rises-changed (marked o b) (marked-record o b) es r

  room-marked : (places : ℕ) → length es ≤ places → length (with_busy o b es) ≤ places
  room-marked places room = room-changed (marked o b) (marked-record o b) es places room

-- the first of a key, made busy, is not ready any more
pub made_busy : (order : Order) (p : ℕ) (es : List Entry) (ready : List ℕ) (places o : ℕ)
    → IsPart order p es ready places → is_first_offset order p es o ≡ true
    → IsPart order p (with_busy o true es) (but o ready) places
made_busy order p es ready places o is at_first =
    let f = first-entry order p es o at_first in
    record {
      rises = rises-marked order p es o true is.rises;
      firsts = λ x i busy. let m = In-mapped (marked o true) x es i in
          rw m.2 (first-marked order p es o true m.0 (elim (cases_Bool (m.0.record.offset == o)) [
            | inl at ↦ rw (one-entry es is.rises m.0 f.0 m.1 f.1
                (number-is m.0.record.offset o at ∙ sym f.2)) f.3
            | inr off ↦ is.firsts m.0 m.1 (ap (λ (y : Entry). y.is_busy)
                (sym (marked-off o true m.0 off) ∙ sym m.2) ∙ busy)
          ]));
      ready_rises = Rises-filter (λ x. not (x == o)) ready is.ready_rises;
      sound = λ u i. let j = In-but u o ready i in
          let r = is.sound u j.0 in
          let off : (r.entry.record.offset == o) ≡ false = subst (λ n. (n == o) ≡ false) (sym r.at) j.1 in
          record {
            entry = marked o true r.entry;
            has = In-map (marked o true) r.entry es r.has;
            at = marked-offset o true r.entry ∙ r.at;
            first = first-marked order p es o true r.entry r.first;
            free = ap (λ (y : Entry). y.is_busy) (marked-off o true r.entry off) ∙ r.free;
          };
      whole = λ u r. let m = In-mapped (marked o true) r.entry es r.has in
          elim (cases_Bool (m.0.record.offset == o)) [
            | inl at ↦ true-false r.entry.is_busy (ap (λ (y : Entry). y.is_busy) m.2
                ∙ marked-at o true m.0 at) r.free
            | inr off ↦ let same : r.entry ≡ m.0 = m.2 ∙ marked-off o true m.0 off in
                let at : m.0.record.offset ≡ u = ap (λ (y : Entry). y.record.offset) (sym same) ∙ r.at in
                but-In u o ready (is.whole u (record {
                  entry = m.0;
                  has = m.1;
                  at = at;
                  first = first-unmarked order p es o true m.0 (rw (← m.2) r.first);
                  free = ap (λ (y : Entry). y.is_busy) (sym same) ∙ r.free;
                })) (subst (λ n. (n == o) ≡ false) at off)
          ];
      room = room-marked order p es o true places is.room;
    }

-- one that was busy is not among the ready ones
pub busy-apart : (order : Order) (p : ℕ) (es : List Entry) (ready : List ℕ) (places o : ℕ)
    → IsPart order p es ready places → EachAt o es (λ e. e.is_busy ≡ true) → In o ready → ⊥
busy-apart order p es ready places o is was i = let r = is.sound o i in
    true-false r.entry.is_busy (was r.entry r.has r.at) r.free

-- and there is a place for it
pub busy-place : (order : Order) (p : ℕ) (es : List Entry) (ready : List ℕ) (places o : ℕ)
    → IsPart order p es ready places → is_first_offset order p es o ≡ true
    → EachAt o es (λ e. e.is_busy ≡ true) → length ready < places
busy-place order p es ready places o is at_first was =
    let f = first-entry order p es o at_first in
    let has : In o (offsets_of es) = rw (← f.2) (In-map (λ (y : Entry). y.record.offset) f.0 es f.1) in
    let few = length-but_one o ready (offsets_of es) is.ready_rises is.rises
    (λ u i. let r = is.sound u i in
    rw (← r.at) (In-map (λ (y : Entry). y.record.offset) r.entry es r.has)) has
    (busy-apart order p es ready places o is was) in
    let len = length-map es (λ (y : Entry). y.record.offset) in
    let room = is.room in omega (arith, few, len, room)

-- a busy one, made free, is ready
pub made_free : (order : Order) (p : ℕ) (es : List Entry) (ready : List ℕ) (places o : ℕ)
    → IsPart order p es ready places → is_first_offset order p es o ≡ true
    → EachAt o es (λ e. e.is_busy ≡ true)
    → IsPart order p (with_busy o false es) (put o ready) places
made_free order p es ready places o is at_first was =
    let f = first-entry order p es o at_first in
    record {
      rises = rises-marked order p es o false is.rises;
      firsts = λ x i busy. let m = In-mapped (marked o false) x es i in
          rw m.2 (first-marked order p es o false m.0 (elim (cases_Bool (m.0.record.offset == o)) [
            | inl at ↦ rw (one-entry es is.rises m.0 f.0 m.1 f.1
                (number-is m.0.record.offset o at ∙ sym f.2)) f.3
            | inr off ↦ is.firsts m.0 m.1 (ap (λ (y : Entry). y.is_busy)
                (sym (marked-off o false m.0 off) ∙ sym m.2) ∙ busy)
          ]));
      ready_rises = Rises-put o ready is.ready_rises (busy-apart order p es ready places o is was);
      sound = λ u i. elim (In-put u o ready i) [
        | inl at ↦ record {
          entry = marked o false f.0;
          has = In-map (marked o false) f.0 es f.1;
          at = marked-offset o false f.0 ∙ f.2 ∙ sym at;
          first = first-marked order p es o false f.0 f.3;
          free = marked-at o false f.0 (number-same f.0.record.offset o f.2);
        }
        | inr j ↦ let r = is.sound u j in record {
          entry = marked o false r.entry;
          has = In-map (marked o false) r.entry es r.has;
          at = marked-offset o false r.entry ∙ r.at;
          first = first-marked order p es o false r.entry r.first;
          free = elim (cases_Bool (r.entry.record.offset == o)) [
            | inl at ↦ marked-at o false r.entry at
            | inr off ↦ ap (λ (y : Entry). y.is_busy) (marked-off o false r.entry off) ∙ r.free
          ];
        }
      ];
      whole = λ u r. let m = In-mapped (marked o false) r.entry es r.has in
          put-In u o ready (elim (cases_Bool (m.0.record.offset == o)) [
            | inl at ↦ inl (sym r.at ∙ ap (λ (y : Entry). y.record.offset) m.2 ∙ marked-offset o false m.0
                ∙ number-is m.0.record.offset o at)
            | inr off ↦ let same : r.entry ≡ m.0 = m.2 ∙ marked-off o false m.0 off in
                inr (is.whole u (record {
                  entry = m.0;
                  has = m.1;
                  at = ap (λ (y : Entry). y.record.offset) (sym same) ∙ r.at;
                  first = first-unmarked order p es o false m.0 (rw (← m.2) r.first);
                  free = ap (λ (y : Entry). y.is_busy) (sym same) ∙ r.free;
                }))
          ]);
      room = room-marked order p es o false places is.room;
    }

-- where none at the offset is busy, making it free changes nothing
pub with_busy-same : (o : ℕ) (b : Bool) (es : List Entry) → EachAt o es (λ e. e.is_busy ≡ b)
    → with_busy o b es ≡ es
with_busy-same o b [] was = refl
with_busy-same o b (e ∷ es) was =
    let here : marked o b e ≡ e = elim (cases_Bool (e.record.offset == o)) [
      | inl at ↦ ap (λ c. cond c (record
          { «record» = e.record; failures = e.failures; is_busy = b }) e) at
          ∙ ap (λ (c : Bool). record
          { «record» = e.record; failures = e.failures; is_busy = c })
          (sym (was e (inl refl) (number-is e.record.offset o at)))
      | inr off ↦ marked-off o b e off
    ] in
    rw (here, with_busy-same o b es (λ x i at. was x (inr i) at)) refl
