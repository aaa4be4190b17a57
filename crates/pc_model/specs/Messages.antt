-- The four messages as plain values, and the one spelling of each (Kafka's protocol guide:
-- OffsetCommit, version 2, and OffsetFetch, version 1). All numbers are big-endian.
use Rattle.std.specs.Prelude.{ℕ, ◌^◌, ◌<◌, ◌≡◌, ℤ, pos, ◌+ℤ◌, true, List, ◌++◌, length, Option, Some, None, FitsSigned, ⊤}
use Rattle.std.proofs.Common.{negsuc}
use Rattle.std.specs.List.{AllByRecursion, flat_map}
use Rattle.std.specs.Int.{Width, w16, w32, w64, byte_len, cast_unsigned}
use Rattle.std.specs.Str.{is_utf8}
use Rattle.byteorder.specs.Endian.{big_bytes}
use Rattle.pc_model.specs.declared.api.TheConstants.{OFFSET_COMMIT, OFFSET_COMMIT_VERSION, OFFSET_FETCH, OFFSET_FETCH_VERSION}

-- ---- the messages

-- a topic, and an item for each of some of its parts
pub record Topic (A : Type 0) : Type 0 where
  pub name : List ℕ
  pub items : List A

-- what is to be stored for a part
pub record CommitItem : Type 0 where
  pub part : ℤ
  pub position : ℤ
  pub metadata : Option (List ℕ)

pub record CommitRequest : Type 0 where
  pub correlation : ℤ
  pub client : Option (List ℕ)
  pub group : List ℕ
  pub generation : ℤ
  pub member : List ℕ
  pub retention : ℤ
  pub topics : List (Topic CommitItem)

-- a part, and the code that says whether its commit was stored
pub record CommitCode : Type 0 where
  pub part : ℤ
  pub code : ℤ

pub record CommitReply : Type 0 where
  pub correlation : ℤ
  pub topics : List (Topic CommitCode)

pub record FetchRequest : Type 0 where
  pub correlation : ℤ
  pub client : Option (List ℕ)
  pub group : List ℕ
  pub topics : List (Topic ℤ)

-- what is stored for a part
pub record FetchEntry : Type 0 where
  pub position : ℤ
  pub metadata : Option (List ℕ)
  pub code : ℤ

pub record FetchReply : Type 0 where
  pub correlation : ℤ
  pub topics : List (Topic (ℤ × FetchEntry))

-- ---- the spellings of the fields

-- a number of a width, as two's complement
abbrev pub int_spelling : Width → ℤ → List ℕ
int_spelling w n = big_bytes (byte_len w) (cast_unsigned w n)

-- a length of two bytes, and so many bytes
abbrev pub string_spelling : List ℕ → List ℕ
string_spelling text = int_spelling w16 (pos (length text)) ++ text

-- the same, or the length -1 for null
abbrev pub nullable_spelling : Option (List ℕ) → List ℕ
nullable_spelling None = int_spelling w16 (negsuc 0)
nullable_spelling (Some text) = string_spelling text

-- a count of four bytes, and so many items
abbrev pub array_spelling : {A : Type 0} → (A → List ℕ) → List A → List ℕ
array_spelling spelled items = int_spelling w32 (pos (length items)) ++ flat_map spelled items

abbrev pub topic_spelling : {A : Type 0} → (A → List ℕ) → Topic A → List ℕ
topic_spelling spelled topic = string_spelling topic.name ++ array_spelling spelled topic.items

abbrev pub topics_spelling : {A : Type 0} → (A → List ℕ) → List (Topic A) → List ℕ
topics_spelling spelled topics = array_spelling (topic_spelling spelled) topics

-- a size of four bytes, and so many bytes
abbrev pub frame_spelling : List ℕ → List ℕ
frame_spelling body = int_spelling w32 (pos (length body)) ++ body

-- ---- the spellings of the messages

abbrev pub commit_item_spelling : CommitItem → List ℕ
commit_item_spelling item = int_spelling w32 item.part ++ (int_spelling w64 item.position
    ++ nullable_spelling item.metadata)

abbrev pub commit_code_spelling : CommitCode → List ℕ
commit_code_spelling item = int_spelling w32 item.part ++ int_spelling w16 item.code

abbrev pub part_spelling : ℤ → List ℕ
part_spelling part = int_spelling w32 part

abbrev pub entry_spelling : ℤ × FetchEntry → List ℕ
entry_spelling item = int_spelling w32 item.0 ++ (int_spelling w64 item.1.position
    ++ (nullable_spelling item.1.metadata ++ int_spelling w16 item.1.code))

-- what a request of a key and a version begins with
abbrev pub header_spelling : ℤ → ℤ → ℤ → Option (List ℕ) → List ℕ
header_spelling key version correlation client = int_spelling w16 key ++ (int_spelling w16 version
    ++ (int_spelling w32 correlation ++ nullable_spelling client))

abbrev pub commit_request_body : CommitRequest → List ℕ
commit_request_body r = header_spelling OFFSET_COMMIT OFFSET_COMMIT_VERSION r.correlation r.client
    ++ (string_spelling r.group ++ (int_spelling w32 r.generation ++ (string_spelling r.member
    ++ (int_spelling w64 r.retention ++ topics_spelling commit_item_spelling r.topics))))

abbrev pub commit_reply_body : CommitReply → List ℕ
commit_reply_body r = int_spelling w32 r.correlation
    ++ topics_spelling commit_code_spelling r.topics

abbrev pub fetch_request_body : FetchRequest → List ℕ
fetch_request_body r = header_spelling OFFSET_FETCH OFFSET_FETCH_VERSION r.correlation r.client
    ++ (string_spelling r.group ++ topics_spelling part_spelling r.topics)

abbrev pub fetch_reply_body : FetchReply → List ℕ
fetch_reply_body r = int_spelling w32 r.correlation ++ topics_spelling entry_spelling r.topics

-- ---- what has a spelling

-- a string of at most 32,767 bytes, in UTF-8
pub record IsString (text : List ℕ) : Type 0 where
  pub short : length text < 2 ^ 15
  pub utf8 : is_utf8 text ≡ true

abbrev pub IsNullable : Option (List ℕ) → Type 0
IsNullable None = ⊤
IsNullable (Some text) = IsString text

-- at most 2^31 - 1 items, each with a spelling
pub record IsArray {A : Type 0} (IsItem : A → Type 0) (items : List A) : Type 0 where
  pub few : length items < 2 ^ 31
  pub each : AllByRecursion IsItem items

pub record IsTopic {A : Type 0} (IsItem : A → Type 0) (topic : Topic A) : Type 0 where
  pub name : IsString topic.name
  pub items : IsArray IsItem topic.items

abbrev pub AreTopics : {A : Type 0} → (A → Type 0) → List (Topic A) → Type 0
AreTopics IsItem topics = IsArray (IsTopic IsItem) topics

-- a position is not below the least
pub record IsPosition (least position : ℤ) : Type 0 where
  pub fits : FitsSigned w64 position
  pub above : ℕ
  pub is : position ≡ least +ℤ pos above

pub record IsCommitItem (item : CommitItem) : Type 0 where
  pub part : FitsSigned w32 item.part
  pub position : IsPosition (pos 0) item.position
  pub metadata : IsNullable item.metadata

pub record IsCommitCode (item : CommitCode) : Type 0 where
  pub part : FitsSigned w32 item.part
  pub code : FitsSigned w16 item.code

abbrev pub IsPart : ℤ → Type 0
IsPart part = FitsSigned w32 part

pub record IsEntry (item : ℤ × FetchEntry) : Type 0 where
  pub part : FitsSigned w32 item.0
  pub position : IsPosition (negsuc 0) item.1.position
  pub metadata : IsNullable item.1.metadata
  pub code : FitsSigned w16 item.1.code

-- ---- the grammar of each message: the frame is its one spelling

-- the frame is a size of at most 2^31 - 1, and this body
pub record IsFrame (frame body : List ℕ) : Type 0 where
  pub short : length body < 2 ^ 31
  pub is : frame ≡ frame_spelling body

pub record IsCommitRequest (frame : List ℕ) (r : CommitRequest) : Type 0 where
  pub correlation : FitsSigned w32 r.correlation
  pub client : IsNullable r.client
  pub group : IsString r.group
  pub generation : FitsSigned w32 r.generation
  pub member : IsString r.member
  pub retention : FitsSigned w64 r.retention
  pub topics : AreTopics IsCommitItem r.topics
  pub spelled : IsFrame frame (commit_request_body r)

pub record IsCommitReply (frame : List ℕ) (r : CommitReply) : Type 0 where
  pub correlation : FitsSigned w32 r.correlation
  pub topics : AreTopics IsCommitCode r.topics
  pub spelled : IsFrame frame (commit_reply_body r)

pub record IsFetchRequest (frame : List ℕ) (r : FetchRequest) : Type 0 where
  pub correlation : FitsSigned w32 r.correlation
  pub client : IsNullable r.client
  pub group : IsString r.group
  pub topics : AreTopics IsPart r.topics
  pub spelled : IsFrame frame (fetch_request_body r)

pub record IsFetchReply (frame : List ℕ) (r : FetchReply) : Type 0 where
  pub correlation : FitsSigned w32 r.correlation
  pub topics : AreTopics IsEntry r.topics
  pub spelled : IsFrame frame (fetch_reply_body r)
