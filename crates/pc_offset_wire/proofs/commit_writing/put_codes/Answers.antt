use Rattle.std.proofs.Common.{arith, length, drop}
use Rattle.std.proofs.lemmas.Result.{err_from_is_err_and}
use Rattle.pc_model.specs.Messages.{commit_code_spelling, IsCommitCode}
use Rattle.pc_model.specs.MessageReading.{commit_item_at}
use Rattle.pc_offset_wire.specs.Items.{items_left}
use Rattle.pc_offset_wire.specs.Replies.{answered_items, code_of}
use Rattle.pc_offset_wire.proofs.ReplyLemmas.{answered-none, length-answered}
use Rattle.pc_offset_wire.proofs.WritingLemmas.{Leaves-none, array-done, array-uncounted}
use Rattle.pc_offset_wire.proofs.commit_writing.put_codes.Goals as goal

pub returns-in_err-put_count : goal.returns-in_err-put_count
returns-in_err-put_count c =
    let p = err_from_is_err_and c.from_residual.result c.from_residual.ensures.1 in
    let items = items_left commit_item_at c.args.items in
    let made = answered_items code_of items c.args.codes.now in
    let same = length-answered code_of items c.args.codes.now c.requires in
    rw (p.1, p.2) (array-uncounted commit_code_spelling IsCommitCode made (length c.args.codes.now) c.args.out.now.items c.put_count.new.out.items c.put_count.new.out.items _ same c.in_err-put_count.ensures)

pub returns : goal.returns
returns c =
    let items = items_left commit_item_at c.args.items in
    let made = answered_items code_of items c.args.codes.now in
    let same = length-answered code_of items c.args.codes.now c.requires in
    let none = answered-none code_of (items_left commit_item_at c.loop-code.items) (drop c.loop-code.code-index c.args.codes.now) (omega arith) in
    array-done commit_code_spelling IsCommitCode made (length c.args.codes.now) _ _ c.in_ok-put_count.ensures same _ (Leaves-none _ _ _ _ _ _ none c.loop-code.invariant.left)
