use Rattle.std.proofs.Common.{◌≡◌, ◌+◌, length, drop}
use Rattle.pc_model.specs.Messages.{entry_spelling, topic_spelling, IsEntry, IsTopic}
use Rattle.pc_model.specs.MessageReading.{part_id_at, topic_at}
use Rattle.pc_offset_wire.specs.Items.{items_left}
use Rattle.pc_offset_wire.specs.Views.{plain_fetch_request}
use Rattle.pc_offset_wire.specs.Replies.{item_count, answered_topics, entry_for}
use Rattle.pc_offset_wire.proofs.WritingLemmas.{Leaves}
use Rattle.pc_offset_wire.proofs.fetch_writing.put_entry_topics.Given as goal

abbrev pub invariant-loop-name : goal.invariant-loop-name
invariant-loop-name l = record {
  left : Leaves (topic_spelling entry_spelling) (IsTopic IsEntry) (answered_topics entry_for (plain_fetch_request l.request).topics l.entries) l.initial.out.items l.out.items (answered_topics entry_for (items_left (topic_at part_id_at) l.name-iterator) (drop l.done l.entries));
  same : length l.entries ≡ l.done + item_count (items_left (topic_at part_id_at) l.name-iterator);
}
