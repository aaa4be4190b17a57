-- The replies to a request: its topics and parts, with what is answered of each in their order.
use Rattle.std.specs.Prelude.{ℕ, ◌+◌, ℤ, ◌≤ℤ◌, List, [], ◌∷◌, map, length, take, drop}
use Rattle.std.proofs.Common.{negsuc}
use Rattle.std.specs.List.{zip}
use Rattle.pc_model.specs.Messages as messages
use Rattle.pc_model.specs.Messages.{Topic}
use Rattle.pc_offset_wire.specs.declared.fetch.FetchEntry.{FetchEntry}
use Rattle.pc_offset_wire.specs.Views.{plain_fetch_entry}

-- how many items the topics have
abbrev pub item_count : {A : Type 0} → List (Topic A) → ℕ
item_count [] = 0
item_count (topic ∷ topics) = length topic.items + item_count topics

-- each item with its answer
abbrev pub answered_items : {A B C : Type 0} → (A → B → C) → List A → List B → List C
answered_items made items answers = map (λ x. made x.0 x.1) (zip items answers)

abbrev pub answered_topic : {A B C : Type 0} → (A → B → C) → Topic A → List B → Topic C
answered_topic made topic answers = record
    { name = topic.name; items = answered_items made topic.items answers }

-- The topics with an answer to each of their items. The answers stand in the order of the items.
abbrev pub answered_topics : {A B C : Type 0} → (A → B → C) → List (Topic A) → List B
    → List (Topic C)
answered_topics made [] answers = []
answered_topics made (topic ∷ topics) answers =
    answered_topic made topic (take (length topic.items) answers)
    ∷ answered_topics made topics (drop (length topic.items) answers)

abbrev pub code_of : messages.CommitItem → ℤ → messages.CommitCode
code_of item code = record { part = item.part; code = code }

-- the reply that has a code for each item
abbrev pub commit_reply_to : messages.CommitRequest → List ℤ → messages.CommitReply
commit_reply_to r codes = record
    { correlation = r.correlation; topics = answered_topics code_of r.topics codes }

abbrev pub entry_for : ℤ → FetchEntry → ℤ × messages.FetchEntry
entry_for part entry = (part, plain_fetch_entry entry)

-- the reply that has an entry for each part
abbrev pub fetch_reply_to : messages.FetchRequest → List FetchEntry → messages.FetchReply
fetch_reply_to r entries = record
    { correlation = r.correlation; topics = answered_topics entry_for r.topics entries }

-- the position is a position, or -1
abbrev pub IsAnswerable : FetchEntry → Type 0
IsAnswerable entry = negsuc 0 ≤ℤ entry.position
