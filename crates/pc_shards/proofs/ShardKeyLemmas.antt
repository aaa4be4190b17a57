-- Ordering keys, and those with lent bytes.
use Rattle.std.proofs.Common.{◌≡◌, ℕ, true, ◌==◌, Bor, List, Option, Some, None, refl, ap, sym, subst, ◌∙◌}
use Rattle.std.specs.Option.{option_copied}
use Rattle.std.proofs.lemmas.Slice.Eq.{bytes_eq-Decides}
use Rattle.pc_model.specs.declared.choices.Order.{Order}
use Rattle.pc_model.specs.declared.choices.Order.TheVariants.{None as NoOrder, Partition, Key as ByKey}
use Rattle.pc_model.specs.Record.{Record as PlainRecord}
use Rattle.pc_model.specs.Next.{OrderingKey, ordering_key, same_key, same_bytes}
use Rattle.pc_model.specs.Next.OrderingKey.{OfRecord, OfPart, OfKey}
use Rattle.pc_shards.specs.declared.shard_key.ShardKey.{ShardKey}
use Rattle.pc_shards.specs.contracts.shard_key.ShardKeyPartialEq.TheImpl as key_eq
use Rattle.pc_shards.specs.Entries.{bare_record}
use Rattle.pc_shards.specs.ShardKey.{bytes_of, is_same}
use Rattle.pc_shards.proofs.Lists.{and-left, and-right, number-is, number-same, same_test}

-- ---- ordering keys

pub same_key-refl : (k : OrderingKey) → same_key k k ≡ true
same_key-refl (OfRecord p o) = rw (number-same p p refl, number-same o o refl) refl
same_key-refl (OfPart p) = number-same p p refl
same_key-refl (OfKey p None) = rw (number-same p p refl) refl
same_key-refl (OfKey p (Some a)) = rw (number-same p p refl, (bytes_eq-Decides a a).1 refl) refl

bytes-true : (a b : Option (List ℕ)) → same_bytes a b ≡ true → a ≡ b
bytes-true None None e = refl
bytes-true (Some a) (Some b) e = ap (λ (x : List ℕ). Some x) ((bytes_eq-Decides a b).0 e)
bytes-true None (Some b) e = cc
bytes-true (Some a) None e = cc

pub same_key-true : (a b : OrderingKey) → same_key a b ≡ true → a ≡ b
same_key-true (OfRecord p o) (OfRecord q u) e =
    ap (λ (x : ℕ). OfRecord x o) (number-is p q (and-left _ _ e)) ∙ ap (λ (x : ℕ). OfRecord q x)
    (number-is o u (and-right (p == q) _ e))
same_key-true (OfRecord p o) (OfPart q) e = cc
same_key-true (OfRecord p o) (OfKey q b) e = cc
same_key-true (OfPart p) (OfRecord q u) e = cc
same_key-true (OfPart p) (OfPart q) e = ap (λ (x : ℕ). OfPart x) (number-is p q e)
same_key-true (OfPart p) (OfKey q b) e = cc
same_key-true (OfKey p a) (OfRecord q u) e = cc
same_key-true (OfKey p a) (OfPart q) e = cc
same_key-true (OfKey p a) (OfKey q b) e =
    ap (λ (x : ℕ). OfKey x a) (number-is p q (and-left _ _ e))
    ∙ ap (λ (x : Option (List ℕ)). OfKey q x) (bytes-true a b (and-right (p == q) _ e))

pub same_key-is : (a b : OrderingKey) → a ≡ b → same_key a b ≡ true
same_key-is a b e = subst (λ c. same_key a c ≡ true) e (same_key-refl a)

pub same_key-sym : (a b : OrderingKey) → same_key a b ≡ same_key b a
same_key-sym a b = same_test (same_key a b) (same_key b a)
    (λ e. same_key-is b a (sym (same_key-true a b e)))
    (λ e. same_key-is a b (sym (same_key-true b a e)))

-- the key goes by the offset and the key's bytes alone
pub bare-key : (order : Order) (p : ℕ) (r : PlainRecord) (o : ℕ) (key : Option (List ℕ))
    → r.offset ≡ o → r.key ≡ key
    → ordering_key order p (bare_record o key) ≡ ordering_key order p r
bare-key NoOrder p r o key at same = ap (λ (u : ℕ). OfRecord p u) (sym at)
bare-key Partition p r o key at same = refl
bare-key ByKey p r o key at same = ap (λ (k : Option (List ℕ)). OfKey p k) (sym same)

-- ---- keys with lent bytes

-- their equality in the code is that of their bytes
eq-bytes : (a b : Option (Bor (List ℕ)))
    → key_eq.eq-value.it (record { bytes = a }) (record { bytes = b })
    ≡ same_bytes (option_copied a) (option_copied b)
eq-bytes None None = refl
eq-bytes None (Some b) = refl
eq-bytes (Some a) None = refl
eq-bytes (Some a) (Some b) = refl

pub eq-is_same : (k l : ShardKey) → key_eq.eq-value.it k l ≡ is_same k l
eq-is_same k l = eq-bytes k.bytes l.bytes

pub is_same-bytes : (k l : ShardKey) → is_same k l ≡ true → bytes_of k ≡ bytes_of l
is_same-bytes k l e = bytes-true (bytes_of k) (bytes_of l) e
