use Rattle.std.proofs.Common.{◌≡◌, ◌+◌, length, drop}
use Rattle.pc_model.specs.Messages.{commit_code_spelling, IsCommitCode}
use Rattle.pc_model.specs.MessageReading.{commit_item_at}
use Rattle.pc_offset_wire.specs.Items.{items_left}
use Rattle.pc_offset_wire.specs.Replies.{answered_items, code_of}
use Rattle.pc_offset_wire.proofs.WritingLemmas.{Leaves}
use Rattle.pc_offset_wire.proofs.commit_writing.put_codes.Given as goal

abbrev pub invariant-loop-code : goal.invariant-loop-code
invariant-loop-code l = record {
  left : Leaves commit_code_spelling IsCommitCode (answered_items code_of (items_left commit_item_at l.fn.items) l.codes) l.initial.out.items l.out.items (answered_items code_of (items_left commit_item_at l.items) (drop l.code-index l.codes));
  same : length l.codes ≡ l.code-index + length (items_left commit_item_at l.items);
}
