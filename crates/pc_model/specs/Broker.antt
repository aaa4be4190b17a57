-- A broker of offsets: what it stores, and the step that a frame makes. The conditions of the codes
-- and their order are this project's own.
use Rattle.std.specs.Prelude.{ℕ, ◌^◌, ◌==◌, ℤ, pos, Bool, false, not, ◌&&◌, nat_lt, if◌then◌else◌, unsigned_abs, List, [], ◌∷◌, map, length, take, drop, find, bytes_eq, Option, Some, None, unwrap_or, Result, Ok, Err}
use Rattle.std.proofs.Common.{negsuc}
use Rattle.std.specs.List.{flat_map, list_any}
use Rattle.std.specs.Option.{option_map}
use Rattle.std.specs.Int.{w16, cast_signed}
use Rattle.std.specs.Ordering.{int_eq}
use Rattle.byteorder.specs.Endian.{big_number}
use Rattle.pc_model.specs.declared.api.TheConstants.{OFFSET_FETCH, NO_ERROR, UNKNOWN_TOPIC_OR_PARTITION, OFFSET_METADATA_TOO_LARGE, ILLEGAL_GENERATION, UNKNOWN_MEMBER_ID}
use Rattle.pc_model.specs.declared.limits.TheConstants.{MAX_METADATA_BYTES}
use Rattle.pc_model.specs.declared.commit.Commit.{Commit}
use Rattle.pc_model.specs.declared.wire_fault.WireFault.{WireFault}
use Rattle.pc_model.specs.Messages.{Topic, CommitItem, CommitRequest, CommitReply, FetchRequest, FetchEntry, FetchReply, frame_spelling, commit_reply_body, fetch_reply_body}
use Rattle.pc_model.specs.MessageReading.{commit_request_reading, fetch_request_reading}

-- ---- the store

-- a commit of a group and a part
pub record Stored : Type 0 where
  pub group : List ℕ
  pub part : ℕ
  pub commit : Commit

-- the generation of a group, and its members
pub record Membership : Type 0 where
  pub group : List ℕ
  pub generation : ℤ
  pub members : List (List ℕ)

-- the broker of one topic with so many parts: for each group and part the commit that it accepted
-- last, and for each group that has one its membership
pub record Broker : Type 0 where
  pub topic : List ℕ
  pub parts : ℕ
  pub commits : List Stored
  pub memberships : List Membership

-- whether a commit is that of a group and a part
abbrev pub is_for : List ℕ → ℕ → Stored → Bool
is_for group part s = bytes_eq s.group group && s.part == part

-- the commits with this one, in the place of that of its group and part if there is one
abbrev pub put_stored : Stored → List Stored → List Stored
put_stored s [] = s ∷ []
put_stored s (t ∷ ts) = if is_for s.group s.part t then s ∷ ts else t ∷ put_stored s ts

-- the memberships with this one, in the place of that of its group if there is one
abbrev pub put_membership : Membership → List Membership → List Membership
put_membership m [] = m ∷ []
put_membership m (n ∷ ns) = if bytes_eq n.group m.group then m ∷ ns else n ∷ put_membership m ns

-- what is stored for a group and a part, if anything is
abbrev pub stored_for : Broker → List ℕ → ℕ → Option Commit
stored_for b group part = option_map (λ s. s.commit)
    (find (is_for group part) b.commits)

-- the membership of a group, if it has a generation
abbrev pub membership_of : Broker → List ℕ → Option Membership
membership_of b group = find (λ m. bytes_eq m.group group) b.memberships

-- the broker with this commit
abbrev pub with_stored : Broker → List ℕ → ℕ → Commit → Broker
with_stored b group part commit = record b
    { commits = put_stored (record { group = group; part = part; commit = commit }) b.commits }

-- the broker where a group has this membership
abbrev pub with_membership : Broker → Membership → Broker
with_membership b m = record b { memberships = put_membership m b.memberships }

-- ---- the codes

-- whether the number is that of one of so many parts
abbrev pub is_part : ℕ → ℤ → Bool
is_part parts (pos part) = nat_lt part parts
is_part parts (negsuc part) = false

-- whether the broker has that part of that topic
abbrev pub has_part : Broker → List ℕ → ℤ → Bool
has_part b name part = bytes_eq name b.topic && is_part b.parts part

-- why a membership refuses a commit of this member and generation, if it does
abbrev pub membership_refusal : Option Membership → List ℕ → ℤ → Option ℤ
membership_refusal None member generation = None
membership_refusal (Some m) member generation =
    if not (list_any (bytes_eq member) m.members) then Some UNKNOWN_MEMBER_ID
    else if not (int_eq m.generation generation) then Some ILLEGAL_GENERATION
    else None

-- null metadata counts as the empty text
abbrev pub metadata_text : Option (List ℕ) → List ℕ
metadata_text metadata = unwrap_or metadata []

-- the code of an item that the membership does not refuse
abbrev pub place_code : Broker → List ℕ → CommitItem → ℤ
place_code b name item =
    if not (has_part b name item.part) then UNKNOWN_TOPIC_OR_PARTITION
    else if nat_lt MAX_METADATA_BYTES (length (metadata_text item.metadata))
    then OFFSET_METADATA_TOO_LARGE
    else NO_ERROR

-- the code of an item of a topic: the first that applies
abbrev pub item_code : Broker → CommitRequest → List ℕ → CommitItem → ℤ
item_code b r name item = unwrap_or
    (membership_refusal (membership_of b r.group) r.member r.generation) (place_code b name item)

-- ---- the steps

-- the items with the names of their topics, in order
abbrev pub named_items : {A : Type 0} → List (Topic A) → List (List ℕ × A)
named_items topics = flat_map (λ topic. map (λ item. (topic.name, item)) topic.items) topics

-- the commit of an item
abbrev pub commit_in : CommitItem → Commit
commit_in item = record
    { position = unsigned_abs item.position; map = metadata_text item.metadata }

-- the broker after one item: its commit is stored where the code says so
abbrev pub after_item : CommitRequest → List ℕ × CommitItem → Broker → Broker
after_item r item b = if int_eq (item_code b r item.0 item.1) NO_ERROR
    then with_stored b r.group (unsigned_abs item.1.part) (commit_in item.1) else b

-- the broker after some items, in order
unfoldable pub after_items : CommitRequest → List (List ℕ × CommitItem) → Broker → Broker
after_items r [] b = b
after_items r (item ∷ items) b = after_items r items (after_item r item b)

-- what a request answers of each item: the same topics, in their order
abbrev pub answered : {A B : Type 0} → (List ℕ → A → B) → List (Topic A) → List (Topic B)
answered answer topics = map
    (λ topic. record { name = topic.name; items = map (answer topic.name) topic.items }) topics

-- No item changes the code of another, so all are by what the broker is before.
abbrev pub commit_reply_of : Broker → CommitRequest → CommitReply
commit_reply_of b r = record {
  correlation = r.correlation;
  topics = answered
      (λ name item. record { part = item.part; code = item_code b r name item }) r.topics;
}

-- an entry of what is stored, and of what is not
abbrev pub entry_of : Option Commit → FetchEntry
entry_of None = record { position = negsuc 0; metadata = Some []; code = NO_ERROR }
entry_of (Some c) = record { position = pos c.position; metadata = Some c.map; code = NO_ERROR }

abbrev pub unknown_entry : FetchEntry
unknown_entry = record
    { position = negsuc 0; metadata = Some []; code = UNKNOWN_TOPIC_OR_PARTITION }

abbrev pub fetch_entry : Broker → List ℕ → List ℕ → ℤ → FetchEntry
fetch_entry b group name part = if has_part b name part
    then entry_of (stored_for b group (unsigned_abs part)) else unknown_entry

abbrev pub fetch_reply_of : Broker → FetchRequest → FetchReply
fetch_reply_of b r = record {
  correlation = r.correlation;
  topics = answered (λ name part. (part, fetch_entry b r.group name part)) r.topics;
}

-- ---- the step of a frame

-- a request of one of the two kinds
pub data Request : Type 0 where
  Commits : CommitRequest → Request
  Fetches : FetchRequest → Request

abbrev pub commits_read : Result CommitRequest WireFault → Result Request WireFault
commits_read (Ok r) = Ok (Commits r)
commits_read (Err fault) = Err fault

abbrev pub fetches_read : Result FetchRequest WireFault → Result Request WireFault
fetches_read (Ok r) = Ok (Fetches r)
fetches_read (Err fault) = Err fault

-- whether the api key is that of a fetch
abbrev pub is_fetch : List ℕ → Bool
is_fetch frame = int_eq (cast_signed w16 (big_number 2 (drop 4 frame))) OFFSET_FETCH

-- the request that a frame is: any other api key is refused as a commit's would be
unfoldable pub request_reading : List ℕ → Result Request WireFault
request_reading frame = if is_fetch frame then fetches_read (fetch_request_reading frame)
    else commits_read (commit_request_reading frame)

-- the body of the reply
unfoldable pub reply_body : Broker → Request → List ℕ
reply_body b (Commits r) = commit_reply_body (commit_reply_of b r)
reply_body b (Fetches r) = fetch_reply_body (fetch_reply_of b r)

-- the broker after the first n items of a request; a fetch changes nothing
abbrev pub after_some : ℕ → Request → Broker → Broker
after_some n (Commits r) b = after_items r (take n (named_items r.topics)) b
after_some n (Fetches r) b = b

-- the broker after a request
abbrev pub after_request : Request → Broker → Broker
after_request (Commits r) b = after_items r (named_items r.topics) b
after_request (Fetches r) b = b

-- why a frame has no reply
pub data Refusal : Type 0 where
  Unread : WireFault → Refusal
  TooLong : Refusal

-- the reply to a request, which has at most 2^31 - 1 bytes after its size, and the broker after it
abbrev pub step_of : Broker → Result Request WireFault → Result (List ℕ × Broker) Refusal
step_of b (Err fault) = Err (Unread fault)
step_of b (Ok r) = if nat_lt (length (reply_body b r)) (2 ^ 31)
    then Ok (frame_spelling (reply_body b r), after_request r b) else Err TooLong

-- the broker's step: the reply to a frame and the broker after it, or why there is none
abbrev pub broker_step : Broker → List ℕ → Result (List ℕ × Broker) Refusal
broker_step b frame = step_of b (request_reading frame)
