-- What a request stores: the commits that are accepted, each put in its turn.
use Rattle.std.proofs.Common.{◌≡◌, ℕ, List, [], ◌∷◌, ◌++◌, map, Bool, true, false, cond, refl, sym, ap, ◌∙◌}
use Rattle.std.specs.List.{flat_map}
use Rattle.std.specs.Ordering.{int_eq}
use Rattle.std.specs.Prelude.{unsigned_abs}
use Rattle.std.proofs.lemmas.List.Concat.{flat_map-append}
use Rattle.pc_model.specs.declared.api.TheConstants.{NO_ERROR}
use Rattle.pc_model.specs.Broker.{Broker, Stored, after_item, after_items, commit_in, item_code, named_items, put_stored}
use Rattle.pc_model.specs.Messages.{CommitItem, CommitRequest, Topic}
use Rattle.pc_offset_store.specs.Store.{accepted_item, accepted_of, put_each}

-- the broker that stores these commits
abbrev pub storing : Broker → List Stored → Broker
storing b commits = record b { commits = commits }

put_each-append : (xs ys ts : List Stored) → put_each (xs ++ ys) ts ≡ put_each ys (put_each xs ts)
put_each-append [] ys ts = refl
put_each-append (x ∷ xs) ys ts = put_each-append xs ys (put_stored x ts)

-- ---- the items, one after the other

abbrev accepted_named : Broker → CommitRequest → List ℕ × CommitItem → List Stored
accepted_named b r x = accepted_item b r x.0 x.1

put_or_not : (b : Broker) (s : Stored) (ts : List Stored) (accepted : Bool)
    → cond accepted (storing b (put_stored s ts)) (storing b ts)
    ≡ storing b (put_each (cond accepted (s ∷ []) []) ts)
put_or_not b s ts true = refl
put_or_not b s ts false = refl

module _ (b : Broker) (r : CommitRequest) where
  after-one : (x : List ℕ × CommitItem) (ts : List Stored)
      → after_item r x (storing b ts) ≡ storing b (put_each (accepted_item b r x.0 x.1) ts)
  after-one x ts = put_or_not b
      (record { group = r.group; part = unsigned_abs x.1.part; commit = commit_in x.1 }) ts
      (int_eq (item_code b r x.0 x.1) NO_ERROR)

  after-named : (xs : List (List ℕ × CommitItem)) (ts : List Stored)
      → after_items r xs (storing b ts)
      ≡ storing b (put_each (flat_map (accepted_named b r) xs) ts)
  unfolding after_items
  after-named [] ts = refl
  after-named (x ∷ xs) ts =
      ap (after_items r xs) (after-one x ts)
      ∙ after-named xs (put_each (accepted_item b r x.0 x.1) ts)
      ∙ ap (storing b) (sym (put_each-append (accepted_item b r x.0 x.1)
      (flat_map (accepted_named b r) xs) ts))

  flat-named : (name : List ℕ) (items : List CommitItem)
      → flat_map (accepted_named b r) (map (λ item. (name, item)) items)
      ≡ flat_map (accepted_item b r name) items
  flat-named name [] = refl
  flat-named name (item ∷ items) =
      ap (λ (ss : List Stored). accepted_item b r name item ++ ss) (flat-named name items)

  flat-topics : (topics : List (Topic CommitItem))
      → flat_map (accepted_named b r) (named_items topics)
      ≡ flat_map (accepted_of b r) topics
  flat-topics [] = refl
  flat-topics (topic ∷ topics) =
      flat_map-append (accepted_named b r)
      (map (λ item. (topic.name, item)) topic.items) (named_items topics)
      ∙ ap (λ (ss : List Stored). ss ++ flat_map (accepted_named b r) (named_items topics))
      (flat-named topic.name topic.items)
      ∙ ap (λ (ss : List Stored). accepted_of b r topic ++ ss) (flat-topics topics)

  -- the broker after a request stores what was accepted
  pub after-request : after_items r (named_items r.topics) b
      ≡ storing b (put_each (flat_map (accepted_of b r) r.topics) b.commits)
  after-request = after-named (named_items r.topics) b.commits
      ∙ ap (λ (ss : List Stored). storing b (put_each ss b.commits)) (flat-topics r.topics)
