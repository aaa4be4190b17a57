use Rattle.std.proofs.Common.{◌≡◌, ◌+◌, length, drop}
use Rattle.pc_model.specs.Messages.{commit_code_spelling, topic_spelling, IsCommitCode, IsTopic}
use Rattle.pc_model.specs.MessageReading.{commit_item_at, topic_at}
use Rattle.pc_offset_wire.specs.Items.{items_left}
use Rattle.pc_offset_wire.specs.Views.{plain_commit_request}
use Rattle.pc_offset_wire.specs.Replies.{item_count, answered_topics, code_of}
use Rattle.pc_offset_wire.proofs.WritingLemmas.{Leaves}
use Rattle.pc_offset_wire.proofs.commit_writing.put_code_topics.Given as goal

abbrev pub invariant-loop-name : goal.invariant-loop-name
invariant-loop-name l = record {
  left : Leaves (topic_spelling commit_code_spelling) (IsTopic IsCommitCode) (answered_topics code_of (plain_commit_request l.request).topics l.codes) l.initial.out.items l.out.items (answered_topics code_of (items_left (topic_at commit_item_at) l.name-iterator) (drop l.done l.codes));
  same : length l.codes ≡ l.done + item_count (items_left (topic_at commit_item_at) l.name-iterator);
}
