-- What is written: texts put one after the other, and the requests by their arguments.
use Rattle.std.specs.Prelude.{◌≡◌, ℕ, ℤ, pos, ◌≤ℤ◌, List, ◌++◌, map, All, Option, Result, Ok, Err, FitsSigned}
use Rattle.std.specs.Int.{w32, w64}
use Rattle.pc_model.specs.Messages as messages
use Rattle.pc_model.specs.Messages.{IsString, IsNullable, AreTopics, IsFrame, IsCommitItem, IsCommitCode, IsPart, IsEntry}
use Rattle.pc_offset_wire.specs.declared.write_fault.WireWriteFault.{WireWriteFault}
use Rattle.pc_offset_wire.specs.declared.write_fault.WireWriteFault.TheVariants.{TooLong, NoMemory}
use Rattle.pc_offset_wire.specs.declared.commit.CommitItem.{CommitItem}
use Rattle.pc_offset_wire.specs.declared.commit_writing.CommitTopic.{CommitTopic}
use Rattle.pc_offset_wire.specs.declared.fetch_writing.FetchTopic.{FetchTopic}
use Rattle.pc_offset_wire.specs.Views.{plain_commit_item}

-- The text was put after what stood there, and the fact holds; or the fact does not hold; or
-- memory ran out.
abbrev pub Puts : List ℕ → Type 0 → List ℕ → List ℕ → Result (Unit {0}) WireWriteFault → Type 0
Puts text Fits old new (Ok done) = (new ≡ old ++ text) × Fits
Puts text Fits old new (Err TooLong) = Fits → ⊥
Puts text Fits old new (Err NoMemory) = Unit {0}

-- ---- the arguments of the requests

abbrev pub IsStorable : CommitItem → Type 0
IsStorable item = pos 0 ≤ℤ item.position

abbrev pub AreStorable : CommitTopic → Type 0
AreStorable topic = All IsStorable topic.items.now

abbrev pub plain_commit_topic : CommitTopic → messages.Topic messages.CommitItem
plain_commit_topic topic = record
    { name = topic.name.now; items = map plain_commit_item topic.items.now }

abbrev pub plain_fetch_topic : FetchTopic → messages.Topic ℤ
plain_fetch_topic topic = record { name = topic.name.now; items = topic.parts.now }

abbrev pub commit_message : ℤ → Option (List ℕ) → List ℕ → ℤ → List ℕ → ℤ → List CommitTopic
    → messages.CommitRequest
commit_message correlation client group generation member retention topics = record {
  correlation = correlation;
  client = client;
  group = group;
  generation = generation;
  member = member;
  retention = retention;
  topics = map plain_commit_topic topics;
}

abbrev pub fetch_message : ℤ → Option (List ℕ) → List ℕ → List FetchTopic → messages.FetchRequest
fetch_message correlation client group topics = record {
  correlation = correlation;
  client = client;
  group = group;
  topics = map plain_fetch_topic topics;
}

-- ---- what has a body

pub record IsCommitBody (r : messages.CommitRequest) : Type 0 where
  pub correlation : FitsSigned w32 r.correlation
  pub client : IsNullable r.client
  pub group : IsString r.group
  pub generation : FitsSigned w32 r.generation
  pub member : IsString r.member
  pub retention : FitsSigned w64 r.retention
  pub topics : AreTopics IsCommitItem r.topics

pub record IsCommitReplyBody (r : messages.CommitReply) : Type 0 where
  pub correlation : FitsSigned w32 r.correlation
  pub topics : AreTopics IsCommitCode r.topics

pub record IsFetchBody (r : messages.FetchRequest) : Type 0 where
  pub correlation : FitsSigned w32 r.correlation
  pub client : IsNullable r.client
  pub group : IsString r.group
  pub topics : AreTopics IsPart r.topics

pub record IsFetchReplyBody (r : messages.FetchReply) : Type 0 where
  pub correlation : FitsSigned w32 r.correlation
  pub topics : AreTopics IsEntry r.topics
