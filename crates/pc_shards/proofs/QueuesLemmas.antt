-- The queues after a change of the map.
use Rattle.std.proofs.Common.{◌≡◌, ℕ, Bool, true, false, List, [], ◌∷◌, slice_get, Bor, Option, Some, None, is_some, refl, ap, sym, inl, inr, ◌∙◌, arith}
use Rattle.std.specs.Option.{option_copied, option_map_or}
use Rattle.std.specs.Slice.{IsItemAt}
use Rattle.std.proofs.lemmas.Bool.{cases_Bool}
use Rattle.indexmap.specs.IndexMap.{IndexMap, get_by, UpdatesBy}
use Rattle.pc_shards.specs.declared.shard_key.ShardKey.{ShardKey}
use Rattle.pc_shards.specs.contracts.shard_key.ShardKeyPartialEq.TheImpl as key_eq
use Rattle.pc_shards.specs.ShardKey.{bytes_of, is_same}
use Rattle.pc_model.specs.Next.{same_bytes}
use Rattle.pc_shards.proofs.ShardKeyLemmas.{eq-is_same, is_same-bytes}

module _ {X S : Type 0} (items : X → List ℕ) where
  -- the queue of a key
  abbrev pub look : IndexMap ShardKey X S → ShardKey → List ℕ
  look m k = option_map_or items (get_by (is_same k) m) []

  found : (m : IndexMap ShardKey X S) (k : ShardKey) → get_by (key_eq.eq-value.it k) m ≡ get_by
      (is_same k) m
  found m k = ap (λ (test : ShardKey → Bool). get_by test m) (λ i l. eq-is_same k l i)

  pub look-found : (m : IndexMap ShardKey X S) (k : ShardKey) (v : Option X)
      → get_by (key_eq.eq-value.it k) m ≡ v → look m k ≡ option_map_or items v []
  look-found m k v is = ap (λ (o : Option X). option_map_or items o []) (sym (found m k) ∙ is)

  -- the same keys have the same queue
  look-same : (m : IndexMap ShardKey X S) (k l : ShardKey) → is_same k l ≡ true
      → look m l ≡ look m k
  look-same m k l e = ap (λ (p : Option (List ℕ)). option_map_or items
      (get_by (λ (j : ShardKey). same_bytes p (bytes_of j)) m) [])
      (sym (is_same-bytes k l e))

  module _ (m n : IndexMap ShardKey X S) (k : ShardKey) (w : Option X)
      (updates : UpdatesBy key_eq.eq-value.it (key_eq.eq-value.it k) m n w) where
    pub look-updated : look n k ≡ option_map_or items w []
    look-updated = look-found n k w updates.1

    pub look-others : (l : ShardKey) → is_same k l ≡ false → look n l ≡ look m l
    look-others l other = ap (λ (o : Option X). option_map_or items o [])
        (sym (found n l) ∙ updates.2 l (eq-is_same k l ∙ other) ∙ found m l)

    -- a value with the same queue changes none
    pub look-stays : option_map_or items w [] ≡ look m k → (l : ShardKey) → look n l ≡ look m l
    look-stays kept l = elim (cases_Bool (is_same k l)) [
      | inl same ↦ look-same n k l same ∙ look-updated ∙ kept ∙ sym (look-same m k l same)
      | inr other ↦ look-others l other
    ]

-- the first item, as `front` gives it
pub front-first : (xs : List ℕ) (r : Option (Bor ℕ)) → IsItemAt xs 0 r
    → option_copied r ≡ slice_get xs 0
front-first [] None item = refl
front-first [] (Some x) item = let e = item.0 in cc
front-first (y ∷ xs) None item = let e = item.2 (omega arith) in cc
front-first (y ∷ xs) (Some x) item = ap Some (item.4 (omega arith) y)

pub empty-first : (xs : List ℕ) → is_some (slice_get xs 0) ≡ false → xs ≡ []
empty-first [] e = refl
empty-first (x ∷ xs) e = cc
