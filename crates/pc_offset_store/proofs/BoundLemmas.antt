-- How long a reply is: at most 1,028 bytes for each of its request, and four.
use Rattle.std.proofs.Common.{◌≡◌, ℕ, ◌+◌, ◌*◌, ◌≤◌, ◌<◌, ◌^◌, ℤ, List, [], ◌∷◌, ◌++◌, length, map, ap, arith}
use Rattle.std.specs.Int.{w16, w32, w64}
use Rattle.std.specs.List.{flat_map}
use Rattle.pc_model.specs.declared.api.TheConstants.{OFFSET_COMMIT, OFFSET_COMMIT_VERSION, OFFSET_FETCH, OFFSET_FETCH_VERSION}
use Rattle.std.proofs.lemmas.List.{length-append}
use Rattle.pc_model.specs.Broker.{Broker, Commits, Fetches, answered, fetch_entry, item_code, reply_body}
use Rattle.pc_model.specs.Messages.{array_spelling, header_spelling, int_spelling, string_spelling, topics_spelling, CommitRequest, FetchEntry, FetchRequest, IsCommitRequest, IsFetchRequest, Topic, commit_code_spelling, commit_item_spelling, entry_spelling, nullable_spelling, part_spelling, topic_spelling}
use Rattle.pc_world.specs.World.{AreStorable}
use Rattle.pc_offset_store.proofs.EntryLemmas.{IsSmall, small}

-- how long a topic is
topic-length : {A : Type 0} (f : A → List ℕ) (topic : Topic A)
    → length (topic_spelling f topic) ≡ 6 + (length topic.name + length (flat_map f topic.items))
topic-length f topic = omega (arith, length-append topic.name (array_spelling f topic.items))

-- what stands behind other parts of a body is no longer than the body
behind : (a b t : List ℕ) → length t ≤ length (a ++ (b ++ t))
behind a b t = omega (arith, length-append b t, length-append a (b ++ t))

behind-all : (a b c d e t : List ℕ) → length t ≤ length (a ++ (b ++ (c ++ (d ++ (e ++ t)))))
behind-all a b c d e t = omega (
  arith,
  length-append e t,
  length-append d (e ++ t),
  length-append c (d ++ (e ++ t)),
  length-append b (c ++ (d ++ (e ++ t))),
  length-append a (b ++ (c ++ (d ++ (e ++ t)))),
)

module _ {A B : Type 0} (f : A → List ℕ) (g : B → List ℕ) where
  -- items, where each is answered so shortly
  items-le : (h : A → B) → ((x : A) → length (g (h x)) ≤ 1028 * length (f x)) → (xs : List A)
      → length (flat_map g (map h xs)) ≤ 1028 * length (flat_map f xs)
  items-le h each [] = omega arith
  items-le h each (x ∷ xs) = omega (
    arith,
    length-append (g (h x)) (flat_map g (map h xs)),
    length-append (f x) (flat_map f xs),
    each x,
    items-le h each xs,
  )

  topics-le : (answer : List ℕ → A → B)
      → ((name : List ℕ) (x : A) → length (g (answer name x)) ≤ 1028 * length (f x))
      → (topics : List (Topic A))
      → length (flat_map (topic_spelling g) (answered answer topics))
      ≤ 1028 * length (flat_map (topic_spelling f) topics)
  topics-le answer each [] = omega arith
  topics-le answer each (topic ∷ topics) =
      let one : Topic B = record { name = topic.name; items = map (answer topic.name) topic.items } in
      omega (
        arith,
        length-append (topic_spelling g one) (flat_map (topic_spelling g) (answered answer topics)),
        length-append (topic_spelling f topic) (flat_map (topic_spelling f) topics),
        topic-length g one,
        topic-length f topic,
        items-le (answer topic.name) (each topic.name) topic.items,
        topics-le answer each topics,
      )

-- ---- the two replies

pub commit-short : (b : Broker) (r : CommitRequest) (frame : List ℕ) → IsCommitRequest frame r
    → length frame ≤ 262144 → length (reply_body b (Commits r)) < 2 ^ 31
unfolding reply_body
commit-short b r frame is le =
    let reply = topics-le commit_item_spelling commit_code_spelling
    (λ name item. record { part = item.part; code = item_code b r name item })
    (λ name item. omega arith) r.topics in
    let body = behind-all (header_spelling OFFSET_COMMIT OFFSET_COMMIT_VERSION r.correlation r.client)
    (string_spelling r.group) (int_spelling w32 r.generation) (string_spelling r.member)
    (int_spelling w64 r.retention) (topics_spelling commit_item_spelling r.topics) in
    omega (arith, reply, body, ap length is.spelled.is)

entry-short : (item : ℤ × FetchEntry) → IsSmall item.1 → length (entry_spelling item) ≤ 4112
entry-short item is = omega (
  arith,
  length-append (nullable_spelling item.1.metadata)
      (int_spelling w16 item.1.code),
  is.short,
)

pub fetch-short : (b : Broker) (r : FetchRequest) (frame : List ℕ) → AreStorable b
    → IsFetchRequest frame r → length frame ≤ 262144 → length (reply_body b (Fetches r)) < 2 ^ 31
unfolding reply_body
fetch-short b r frame all is le =
    let reply = topics-le part_spelling entry_spelling
    (λ name part. (part, fetch_entry b r.group name part))
    (λ name part. entry-short (part, fetch_entry b r.group name part) (small b r.group name part all)) r.topics in
    let body = behind (header_spelling OFFSET_FETCH OFFSET_FETCH_VERSION r.correlation r.client)
    (string_spelling r.group) (topics_spelling part_spelling r.topics) in
    omega (arith, reply, body, ap length is.spelled.is)
