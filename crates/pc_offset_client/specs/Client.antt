-- What the client asks, and what a reply answers.
use Rattle.std.specs.Prelude.{ℕ, ◌-◌, ◌^◌, ◌<◌, ◌≡◌, ◌⊎◌, ℤ, pos, true, false, if◌then◌else◌, int_lt, unsigned_abs, List, [], ◌∷◌, length, min, bytes_eq, Some, unwrap_or, Result, Ok, Err, codes, ⊤}
use Rattle.std.proofs.Common.{negsuc}
use Rattle.std.specs.Ordering.{int_eq}
use Rattle.pc_model.specs.declared.commit.Commit.{Commit}
use Rattle.pc_model.specs.declared.api.TheConstants.{NO_ERROR, UNKNOWN_TOPIC_OR_PARTITION}
use Rattle.pc_model.specs.declared.wire_fault.WireFault.{WireFault}
use Rattle.pc_model.specs.Given.{no_commit}
use Rattle.pc_model.specs.Messages.{Topic, CommitItem, CommitRequest, FetchRequest, FetchEntry}
use Rattle.pc_model.specs.MessageReading.{commit_reply_reading, fetch_reply_reading}
use Rattle.pc_model.specs.Broker.{Broker, has_part, item_code, metadata_text, stored_for, with_stored}
use Rattle.pc_offset_client.specs.declared.fault.ClientFault.{ClientFault}
use Rattle.pc_offset_client.specs.declared.fault.ClientFault.TheVariants.{LinkFailed, Refused, BadReply, OtherReply, NoMemory}

-- a client: its link, and the correlation id of its next frame
pub record ClientView (L : Type 0) : Type 0 where
  pub link : L
  pub next : ℤ

-- the group, the topic and the id of every frame
abbrev pub GROUP : List ℕ
GROUP = codes "parcon"

abbrev pub TOPIC : List ℕ
TOPIC = codes "log"

abbrev pub CLIENT : List ℕ
CLIENT = codes "pc"

-- ---- what is asked

-- one part of the topic
abbrev pub one_part : {A : Type 0} → A → List (Topic A)
one_part item = record { name = TOPIC; items = item ∷ [] } ∷ []

abbrev pub item_of : ℕ → Commit → CommitItem
item_of part c = record { part = pos part; position = pos c.position; metadata = Some c.map }

-- the request that a commit of the part be stored
abbrev pub commit_question : ℤ → ℕ → Commit → CommitRequest
commit_question id part c = record {
  correlation = id;
  client = Some CLIENT;
  group = GROUP;
  generation = negsuc 0;
  member = [];
  retention = negsuc 0;
  topics = one_part (item_of part c);
}

-- the request for what is stored for the part
abbrev pub fetch_question : ℤ → ℕ → FetchRequest
fetch_question id part = record {
  correlation = id;
  client = Some CLIENT;
  group = GROUP;
  topics = one_part (pos part);
}

-- ---- what a reply answers

infixl 10 ◌>>=◌
-- what is found, and then the next by that
abbrev pub ◌>>=◌ : {A B : Type 0} → Result A ClientFault → (A → Result B ClientFault) → Result B ClientFault
(Ok x) >>= f = f x
(Err fault) >>= f = Err fault

-- two numbers that have to be the same
abbrev pub same : ℤ → ℤ → Result (Unit {0}) ClientFault
same asked got = if int_eq asked got then Ok tt else Err (OtherReply asked got)

-- the only item, or how many there are; no frame has more than 2^31 - 1
abbrev pub only_one : {A : Type 0} → List A → Result A ClientFault
only_one (item ∷ []) = Ok item
only_one items = Err (OtherReply (pos 1) (pos (min (length items) (2 ^ 31 - 1))))

-- a topic's name, which has to be the client's
abbrev pub same_topic : List ℕ → Result (Unit {0}) ClientFault
same_topic name = if bytes_eq name TOPIC then Ok tt else Err (OtherReply (pos 0) (pos 1))

-- the only item of the only topic
unfoldable pub only_item : {A : Type 0} → List (Topic A) → Result A ClientFault
only_item topics = do
  topic ← only_one topics
  named ← same_topic topic.name
  only_one topic.items

-- a code that has to be 0
abbrev pub accepted : ℤ → Result (Unit {0}) ClientFault
accepted code = if int_eq code NO_ERROR then Ok tt else Err (Refused code)

-- a reply, if it reads
abbrev pub reply_of : {A : Type 0} → Result A WireFault → Result A ClientFault
reply_of (Ok reply) = Ok reply
reply_of (Err fault) = Err (BadReply fault)

-- what the bytes of a reply say of the commit of the part
unfoldable pub commit_answer : ℤ → ℕ → List ℕ → Result (Unit {0}) ClientFault
commit_answer id part bytes = do
  reply ← reply_of (commit_reply_reading bytes)
  a ← same id reply.correlation
  item ← only_item reply.topics
  b ← same (pos part) item.part
  accepted item.code

-- the commit of an entry: the position -1 says that nothing is stored
abbrev pub entry_commit : FetchEntry → Commit
entry_commit entry = if int_lt entry.position (pos 0) then no_commit
    else record { position = unsigned_abs entry.position; map = metadata_text entry.metadata }

-- what the bytes of a reply say is stored for the part
unfoldable pub fetch_answer : ℤ → ℕ → List ℕ → Result Commit ClientFault
fetch_answer id part bytes = do
  reply ← reply_of (fetch_reply_reading bytes)
  a ← same id reply.correlation
  item ← only_item reply.topics
  b ← same (pos part) item.0
  c ← accepted item.1.code
  Ok (entry_commit item.1)

-- The answer is that of some reply, unless the link failed or memory ran out.
abbrev pub IsAnswer : {A : Type 0} → (List ℕ → Result A ClientFault) → Result A ClientFault → Type 0
IsAnswer answer (Err LinkFailed) = ⊤
IsAnswer answer (Err NoMemory) = ⊤
IsAnswer answer result = (reply : List ℕ) × (answer reply ≡ result)

-- ---- what a broker answers that tells what it stores

-- the code of a commit of the part
abbrev pub commit_code : Broker → ℕ → Commit → ℤ
commit_code b part c = item_code b (commit_question (pos 0) part c) TOPIC (item_of part c)

-- the broker with that commit
abbrev pub with_commit : Broker → ℕ → Commit → Broker
with_commit b part c = with_stored b GROUP part c

-- the commit that is stored for the part: position 0 without a map where none is
abbrev pub kept_for : Broker → ℕ → Commit
kept_for b part = unwrap_or (stored_for b GROUP part) no_commit

-- the broker accepted the commit and stores it now
pub record Accepts (before after : Broker) (part : ℕ) (c : Commit) : Type 0 where
  pub code : commit_code before part c ≡ NO_ERROR
  pub stored : after ≡ with_commit before part c

-- the broker refused the commit with this code and stores what it stored
pub record Refuses (before after : Broker) (part : ℕ) (c : Commit) (code : ℤ) : Type 0 where
  pub is : code ≡ commit_code before part c
  pub other : code ≡ NO_ERROR → ⊥
  pub same : after ≡ before

-- a commit of the part was answered
abbrev pub CommitGives : Broker → Broker → ℕ → Commit → Result (Unit {0}) ClientFault → Type 0
CommitGives before after part c (Ok done) = Accepts before after part c
CommitGives before after part c (Err LinkFailed) =
    (after ≡ before) ⊎ Accepts before after part c
CommitGives before after part c (Err (Refused code)) = Refuses before after part c code
CommitGives before after part c (Err NoMemory) = after ≡ before
CommitGives before after part c (Err fault) = ⊥

-- what is stored for the part was answered, or that the broker has no such part
abbrev pub FetchGives : Broker → ℕ → Result Commit ClientFault → Type 0
FetchGives b part (Ok c) = (has_part b TOPIC (pos part) ≡ true) × (c ≡ kept_for b part)
FetchGives b part (Err (Refused code)) =
    (has_part b TOPIC (pos part) ≡ false) × (code ≡ UNKNOWN_TOPIC_OR_PARTITION)
FetchGives b part (Err LinkFailed) = ⊤
FetchGives b part (Err NoMemory) = ⊤
FetchGives b part (Err fault) = ⊥

-- a commit that came in a frame
pub record IsFrameCommit (c : Commit) : Type 0 where
  pub position : c.position < 2 ^ 63
  pub map : length c.map < 2 ^ 15
