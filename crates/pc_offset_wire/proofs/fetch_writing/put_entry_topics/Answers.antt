use Rattle.std.proofs.Common.{◌∙◌, ap, length, drop}
use Rattle.std.proofs.lemmas.Result.{err_from_is_err_and}
use Rattle.pc_model.specs.Messages.{entry_spelling, topic_spelling, IsEntry, IsTopic}
use Rattle.pc_offset_wire.specs.Views.{plain_fetch_request}
use Rattle.pc_offset_wire.specs.Replies.{answered_topics, entry_for}
use Rattle.pc_offset_wire.proofs.ReplyLemmas.{answered-no_topics, length-answered_topics}
use Rattle.pc_offset_wire.proofs.WritingLemmas.{Leaves-none, array-done, array-uncounted}
use Rattle.pc_offset_wire.proofs.fetch_writing.put_entry_topics.Goals as goal

pub returns-in_err-put_count : goal.returns-in_err-put_count
returns-in_err-put_count c =
    let p = err_from_is_err_and c.from_residual.result c.from_residual.ensures.1 in
    let topics = (plain_fetch_request c.args.request.now).topics in
    let made = answered_topics entry_for topics c.args.entries.now in
    let same = c.len.ensures ∙ ap length c.topics.ensures ∙ length-answered_topics entry_for topics c.args.entries.now in
    let now = c.put_count.new.out.items in
    rw (p.1, p.2) (array-uncounted (topic_spelling entry_spelling) (IsTopic IsEntry) made c.len.result c.args.out.now.items now now _ same c.in_err-put_count.ensures)

pub returns : goal.returns
returns c =
    let topics = (plain_fetch_request c.args.request.now).topics in
    let made = answered_topics entry_for topics c.args.entries.now in
    let same = c.len.ensures ∙ ap length c.topics.ensures ∙ length-answered_topics entry_for topics c.args.entries.now in
    let none = answered-no_topics entry_for _ (drop c.loop-name.done c.args.entries.now) c.in-None.ensures.steps.0 in
    array-done (topic_spelling entry_spelling) (IsTopic IsEntry) made c.len.result _ _ c.in_ok-put_count.ensures same _ (Leaves-none _ _ _ _ _ _ none c.loop-name.invariant.left)
