-- What is read, without where it lies in memory.
use Rattle.std.specs.Prelude.{ℤ}
use Rattle.std.specs.Option.{option_copied}
use Rattle.pc_model.specs.Messages as messages
use Rattle.pc_model.specs.MessageReading.{topic_at, commit_item_at, commit_code_at, part_id_at, entry_at}
use Rattle.pc_offset_wire.specs.declared.commit.CommitItem.{CommitItem}
use Rattle.pc_offset_wire.specs.declared.commit.CommitCode.{CommitCode}
use Rattle.pc_offset_wire.specs.declared.commit.CommitRequest.{CommitRequest}
use Rattle.pc_offset_wire.specs.declared.commit.CommitReply.{CommitReply}
use Rattle.pc_offset_wire.specs.declared.fetch.FetchEntry.{FetchEntry}
use Rattle.pc_offset_wire.specs.declared.fetch.FetchRequest.{FetchRequest}
use Rattle.pc_offset_wire.specs.declared.fetch.FetchReply.{FetchReply}
use Rattle.pc_offset_wire.specs.Items.{items_left}

-- ---- the items

abbrev pub plain_commit_item : CommitItem → messages.CommitItem
plain_commit_item item = record
    { part = item.part; position = item.position; metadata = option_copied item.metadata }

abbrev pub plain_commit_code : CommitCode → messages.CommitCode
plain_commit_code item = record { part = item.part; code = item.code }

abbrev pub plain_fetch_entry : FetchEntry → messages.FetchEntry
plain_fetch_entry entry = record
    { position = entry.position; metadata = option_copied entry.metadata; code = entry.code }

abbrev pub plain_part_entry : ℤ × FetchEntry → ℤ × messages.FetchEntry
plain_part_entry item = (item.0, plain_fetch_entry item.1)

-- ---- the messages

abbrev pub plain_commit_request : CommitRequest → messages.CommitRequest
plain_commit_request r = record {
  correlation = r.correlation;
  client = option_copied r.client;
  group = r.group.now;
  generation = r.generation;
  member = r.member.now;
  retention = r.retention;
  topics = items_left (topic_at commit_item_at) r.topics;
}

abbrev pub plain_commit_reply : CommitReply → messages.CommitReply
plain_commit_reply r = record
    { correlation = r.correlation; topics = items_left (topic_at commit_code_at) r.topics }

abbrev pub plain_fetch_request : FetchRequest → messages.FetchRequest
plain_fetch_request r = record {
  correlation = r.correlation;
  client = option_copied r.client;
  group = r.group.now;
  topics = items_left (topic_at part_id_at) r.topics;
}

abbrev pub plain_fetch_reply : FetchReply → messages.FetchReply
plain_fetch_reply r = record
    { correlation = r.correlation; topics = items_left (topic_at entry_at) r.topics }
