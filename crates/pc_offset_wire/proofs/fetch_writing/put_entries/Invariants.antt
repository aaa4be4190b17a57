use Rattle.std.proofs.Common.{◌≡◌, ◌+◌, length, drop}
use Rattle.pc_model.specs.Messages.{entry_spelling, IsEntry}
use Rattle.pc_model.specs.MessageReading.{part_id_at}
use Rattle.pc_offset_wire.specs.Items.{items_left}
use Rattle.pc_offset_wire.specs.Replies.{answered_items, entry_for}
use Rattle.pc_offset_wire.proofs.WritingLemmas.{Leaves}
use Rattle.pc_offset_wire.proofs.fetch_writing.put_entries.Given as goal

abbrev pub invariant-loop-entry : goal.invariant-loop-entry
invariant-loop-entry l = record {
  left : Leaves entry_spelling IsEntry (answered_items entry_for (items_left part_id_at l.fn.parts) l.entries) l.initial.out.items l.out.items (answered_items entry_for (items_left part_id_at l.parts) (drop l.entry-index l.entries));
  same : length l.entries ≡ l.entry-index + length (items_left part_id_at l.parts);
}
