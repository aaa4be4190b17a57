-- The topics of a reply, one after the other.
use Rattle.std.proofs.Common.{◌≡◌, ℕ, ◌+◌, ◌<◌, List, [], ◌∷◌, ◌++◌, length, get_or, drop, Err, refl, ap, ◌∙◌, arith}
use Rattle.std.specs.List.{zip, AllByRecursion, flat_map}
use Rattle.std.proofs.lemmas.List.{length-map, nil_from_length, drop_more}
use Rattle.std.proofs.lemmas.Slice.Zip.{length-zip}
use Rattle.pc_model.specs.Messages.{Topic}
use Rattle.pc_offset_wire.specs.declared.write_fault.WireWriteFault.{WireWriteFault}
use Rattle.pc_offset_wire.specs.Writing.{Puts}
use Rattle.pc_offset_wire.specs.Replies.{answered_items, answered_topics}
use Rattle.pc_offset_wire.proofs.WritingLemmas.{Leaves, Leaves-one, Leaves-fails}

module _ {A B C : Type 0} (made : A → B → C) where
  -- an item and its answer
  answered-one : (xs others : List A) (ys rest : List B) (x : A) (y : B) → xs ≡ x ∷ others → ys ≡ y ∷ rest → answered_items made xs ys ≡ made x y ∷ answered_items made others rest
  answered-one xs others ys rest x y e h = ap (λ (l : List A). answered_items made l ys) e ∙ ap (answered_items made (x ∷ others)) h

  -- no item
  pub answered-none : (xs : List A) (ys : List B) → length xs ≡ 0 → answered_items made xs ys ≡ []
  answered-none xs ys e = ap (λ (l : List A). answered_items made l ys) (nil_from_length xs e)

  -- as many as there are items
  pub length-answered : (xs : List A) (ys : List B) → length ys ≡ length xs → length ys ≡ length (answered_items made xs ys)
  length-answered xs ys e = omega (arith, length-map (zip xs ys) (λ x. made x.0 x.1), length-zip xs ys)

  -- no topic
  pub answered-no_topics : (topics : List (Topic A)) (ys : List B) → topics ≡ [] → answered_topics made topics ys ≡ []
  answered-no_topics topics ys e = ap (λ (l : List (Topic A)). answered_topics made l ys) e

  -- as many as there are topics
  pub length-answered_topics : (topics : List (Topic A)) (ys : List B) → length topics ≡ length (answered_topics made topics ys)
  length-answered_topics [] ys = refl
  length-answered_topics (topic ∷ topics) ys = omega (arith, length-answered_topics topics (drop (length topic.items) ys))

-- ---- an item and its answer

module _ {A B C : Type 0} (made : A → B → C) (spelled : C → List ℕ) (IsMade : C → Type 0) (all : List C) (start now : List ℕ) (xs others : List A) (ys : List B) (i : ℕ) (x : A) (e : xs ≡ x ∷ others) (lt : i < length ys) (left : Leaves spelled IsMade all start now (answered_items made xs (drop i ys))) where
  answered : (d : B) → answered_items made xs (drop i ys) ≡ made x (get_or ys i d) ∷ answered_items made others (drop (i + 1) ys)
  answered d = answered-one made xs others (drop i ys) (drop (i + 1) ys) x (get_or ys i d) e (drop_more ys i d lt)

  pub answer-one : (d : B) (new : List ℕ) → (new ≡ now ++ spelled (made x (get_or ys i d))) × IsMade (made x (get_or ys i d)) → Leaves spelled IsMade all start new (answered_items made others (drop (i + 1) ys))
  answer-one d new put = Leaves-one spelled IsMade all start (answered_items made xs (drop i ys)) (answered_items made others (drop (i + 1) ys)) (made x (get_or ys i d)) now new (answered d) put left

  pub answer-fails : (d : B) (new last : List ℕ) (fault : WireWriteFault) → Puts (spelled (made x (get_or ys i d))) (IsMade (made x (get_or ys i d))) now new (Err fault) → Puts (flat_map spelled all) (AllByRecursion IsMade all) start last (Err fault)
  answer-fails d new last fault put = Leaves-fails spelled IsMade all start fault (answered_items made xs (drop i ys)) (answered_items made others (drop (i + 1) ys)) (made x (get_or ys i d)) now new last (answered d) put left
