-- What is answered of each item of a request, as a list and as topics.
use Rattle.std.proofs.Common.{◌≡◌, ℕ, zero, suc, List, [], ◌∷◌, length, map, take, drop, refl, sym, ap, ◌∙◌, arith}
use Rattle.std.specs.List.{flat_map, AllByRecursion}
use Rattle.std.proofs.lemmas.List.{take_at, drop_at, length-append, length-map}
use Rattle.pc_model.specs.Broker.{answered}
use Rattle.pc_model.specs.Messages.{Topic, IsTopic, AreTopics}
use Rattle.pc_offset_wire.specs.Replies.{answered_items, answered_topics, item_count}

module _ {A B : Type 0} (answer : List ℕ → A → B) where
  -- the answers to a topic's items, and to all
  abbrev of_topic : Topic A → List B
  of_topic topic = map (answer topic.name) topic.items

  -- as many as there are items
  pub length-answers : (topics : List (Topic A)) → length (flat_map of_topic topics) ≡ item_count topics
  length-answers [] = refl
  length-answers (topic ∷ topics) = omega (
    arith,
    length-append (of_topic topic) (flat_map of_topic topics),
    length-map topic.items (answer topic.name),
    length-answers topics,
  )

  module _ {C : Type 0} (made : A → B → C) where
    items_made : (name : List ℕ) (xs : List A)
        → answered_items made xs (map (answer name) xs) ≡ map (λ x. made x (answer name x)) xs
    items_made name [] = refl
    items_made name (x ∷ xs) = ap (λ (ys : List C). made x (answer name x) ∷ ys) (items_made name xs)

    -- the topics with these answers are the topics where each item is answered
    pub topics_made : (topics : List (Topic A))
        → answered_topics made topics (flat_map of_topic topics)
        ≡ answered (λ name x. made x (answer name x)) topics
    topics_made [] = refl
    topics_made (topic ∷ topics) =
        let these = of_topic topic in
        let others = flat_map of_topic topics in
        let n = length topic.items in
        let front = take_at these others n (length-map topic.items (answer topic.name)) in
        let back = drop_at these others n (length-map topic.items (answer topic.name)) in
        rw (front, back, items_made topic.name topic.items) (ap (λ (ys : List (Topic C)). record
        { name = topic.name; items = map (λ x. made x (answer topic.name x)) topic.items } ∷ ys)
        (topics_made topics))

-- ---- answers that are seen by a view

module _ {A B V C : Type 0} (view : V → B) (made : A → B → C) where
  items_seen : (xs : List A) (ys : List V)
      → answered_items (λ x y. made x (view y)) xs ys ≡ answered_items made xs (map view ys)
  items_seen [] ys = refl
  items_seen (x ∷ xs) [] = refl
  items_seen (x ∷ xs) (y ∷ ys) = ap (λ (zs : List C). made x (view y) ∷ zs) (items_seen xs ys)

  take-map : (n : ℕ) (ys : List V) → take n (map view ys) ≡ map view (take n ys)
  take-map zero [] = refl
  take-map zero (y ∷ ys) = refl
  take-map (suc n) [] = refl
  take-map (suc n) (y ∷ ys) = ap (λ (zs : List B). view y ∷ zs) (take-map n ys)

  drop-map : (n : ℕ) (ys : List V) → drop n (map view ys) ≡ map view (drop n ys)
  drop-map zero [] = refl
  drop-map zero (y ∷ ys) = refl
  drop-map (suc n) [] = refl
  drop-map (suc n) (y ∷ ys) = drop-map n ys

  pub topics_seen : (topics : List (Topic A)) (ys : List V)
      → answered_topics (λ x y. made x (view y)) topics ys ≡ answered_topics made topics (map view ys)
  topics_seen [] ys = refl
  topics_seen (topic ∷ topics) ys =
      let n = length topic.items in
      let items = items_seen topic.items (take n ys)
      ∙ sym (ap (answered_items made topic.items) (take-map n ys)) in
      let others = topics_seen topics (drop n ys)
      ∙ sym (ap (answered_topics made topics) (drop-map n ys)) in
      ap (λ (zs : List C). record { name = topic.name; items = zs }
      ∷ answered_topics (λ x y. made x (view y)) topics (drop n ys)) items
      ∙ ap (λ (zs : List (Topic C)). record {
        name = topic.name;
        items = answered_items made topic.items (take n (map view ys));
      } ∷ zs) others

-- ---- what all answers are

module _ {A B : Type 0} (Fits : A → Type 0) (Is : B → Type 0) (answer : List ℕ → A → B)
    (each : (name : List ℕ) (x : A) → Fits x → Is (answer name x)) where
  all-items : (name : List ℕ) (xs : List A) → AllByRecursion Fits xs
      → AllByRecursion Is (map (answer name) xs)
  all-items name [] all = tt
  all-items name (x ∷ xs) all = (each name x all.0, all-items name xs all.1)

  all-topics : (topics : List (Topic A)) → AllByRecursion (IsTopic Fits) topics
      → AllByRecursion (IsTopic Is) (answered answer topics)
  all-topics [] all = tt
  all-topics (topic ∷ topics) all = (
    record {
      name = all.0.name;
      items = record {
        few = rw (length-map topic.items (answer topic.name)) all.0.items.few;
        each = all-items topic.name topic.items all.0.items.each;
      };
    },
    all-topics topics all.1,
  )

  length-answered : (topics : List (Topic A)) → length (answered answer topics) ≡ length topics
  length-answered [] = refl
  length-answered (topic ∷ topics) = ap (λ (n : ℕ). suc n) (length-answered topics)

  pub are-answered : (topics : List (Topic A)) → AreTopics Fits topics → AreTopics Is (answered answer topics)
  are-answered topics are = record {
    few = rw (length-answered topics) are.few;
    each = all-topics topics are.each;
  }
