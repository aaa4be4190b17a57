-- The state of a part without its last entry.
use Rattle.std.proofs.Common.{◌≡◌, ℕ, ◌<◌, ◌-◌, not, ◌==◌, List, [], ◌∷◌, ◌++◌, length, take, refl, ap, sym, inl, inr, ◌∙◌, arith}
use Rattle.std.proofs.lemmas.List.{length-append, take_at}
use Rattle.pc_model.specs.declared.choices.Order.{Order}
use Rattle.pc_shards.specs.Entries.{Entry}
use Rattle.pc_shards.specs.Part.{IsPart, offsets_of}
use Rattle.pc_shards.specs.Rising.{In, Rises, but}
use Rattle.pc_shards.proofs.AddedEntries.{first-push, first-pushed}
use Rattle.pc_shards.proofs.EntriesLemmas.{length-push}
use Rattle.pc_shards.proofs.Lists.{AllByRecursion-In, AllByRecursion-each, In-append, In-append_left, In-append_right, In-map, In-mapped, number-is_not, number-other}
use Rattle.pc_shards.proofs.RisingLemmas.{In-but, Rises-filter, but-In}

-- a list without its last item
pub take-front : {X : Type 0} (xs : List X) (x : X)
    → take (length (xs ++ x ∷ []) - 1) (xs ++ x ∷ []) ≡ xs
take-front xs x = take_at xs (x ∷ []) (length (xs ++ x ∷ []) - 1)
    (let len = length-append xs (x ∷ []) in omega (arith, len))

offset-In : (q : Entry) (es : List Entry) → In q es → In q.record.offset (offsets_of es)
offset-In q es i = In-map (λ (y : Entry). y.record.offset) q es i

-- the entries before the last are below it
pub last-above : (es : List Entry) (e : Entry) → Rises (offsets_of (es ++ e ∷ [])) → (q : Entry)
    → In q es → q.record.offset < e.record.offset
last-above [] e r q i = elim i [ ]
last-above (x ∷ es) e r q (inl same) = rw same (AllByRecursion-In (λ y. x.record.offset < y) e.record.offset
    (offsets_of (es ++ e ∷ [])) r.0
    (offset-In e (es ++ e ∷ []) (In-append_right e es (e ∷ []) (inl refl))))
last-above (x ∷ es) e r q (inr i) = last-above es e r.1 q i

rises-front : (es : List Entry) (e : Entry) → Rises (offsets_of (es ++ e ∷ []))
    → Rises (offsets_of es)
rises-front [] e r = tt
rises-front (x ∷ es) e r = (
  AllByRecursion-each (λ y. x.record.offset < y) (offsets_of es) (λ o i.
      let m = In-mapped (λ (y : Entry). y.record.offset) o es i in
      AllByRecursion-In (λ y. x.record.offset < y) o (offsets_of (es ++ e ∷ [])) r.0
      (rw m.2 (offset-In m.0 (es ++ e ∷ []) (In-append_left m.0 es (e ∷ []) m.1)))),
  rises-front es e r.1,
)

module _ (order : Order) (p : ℕ) (es : List Entry) (e : Entry) (ready : List ℕ) (places : ℕ)
    (is : IsPart order p (es ++ e ∷ []) ready places) where
  above : (q : Entry) → In q es → q.record.offset < e.record.offset
  above = last-above es e is.rises

  pub part-front : IsPart order p es (but e.record.offset ready) places
  part-front = record {
    rises = rises-front es e is.rises;
    firsts = λ x i busy. first-pushed order p es e above x
        (is.firsts x (In-append_left x es (e ∷ []) i) busy);
    ready_rises = Rises-filter (λ x. not (x == e.record.offset)) ready is.ready_rises;
    sound = λ o i. let j = In-but o e.record.offset ready i in
        let r = is.sound o j.0 in
        elim (In-append r.entry es (e ∷ []) r.has) [
          | inl k ↦ record {
            entry = r.entry;
            has = k;
            at = r.at;
            first = first-pushed order p es e above r.entry r.first;
            free = r.free;
          }
          | inr k ↦ elim k [
            | inl at ↦ number-is_not o e.record.offset j.1 (sym r.at ∙ ap (λ (y : Entry). y.record.offset) at)
            | inr none ↦ elim none [ ]
          ]
        ];
    whole = λ o r. but-In o e.record.offset ready (is.whole o (record {
      entry = r.entry;
      has = In-append_left r.entry es (e ∷ []) r.has;
      at = r.at;
      first = first-push order p es e above r.entry r.has r.first;
      free = r.free;
    })) (number-other o e.record.offset (λ same. let lt = above r.entry r.has in
        let at = r.at in omega (arith, lt, at, same)));
    room = let room = is.room in omega (arith, room, length-push es e);
  }
