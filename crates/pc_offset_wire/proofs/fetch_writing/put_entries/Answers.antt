use Rattle.std.proofs.Common.{◌≡◌, ◌++◌, None, Err, pos, w32, arith, rules, length, drop, get_or, ap, subst}
use Rattle.std.specs.Prelude.{FitsSigned}
use Rattle.std.proofs.lemmas.Int.{to_z-of_z}
use Rattle.std.proofs.lemmas.Result.{err_from_is_err_and}
use Rattle.pc_offset_wire.specs.Writing.{Puts}
use Rattle.pc_model.specs.Messages.{entry_spelling, IsEntry}
use Rattle.pc_model.specs.MessageReading.{part_id_at}
use Rattle.pc_offset_wire.specs.declared.fetch.FetchEntry.{FetchEntry}
use Rattle.pc_offset_wire.specs.Items.{items_left}
use Rattle.pc_offset_wire.specs.Replies.{answered_items, entry_for}
use Rattle.pc_offset_wire.proofs.ReplyLemmas.{answered-none, length-answered, answer-one, answer-fails}
use Rattle.pc_offset_wire.proofs.WritingLemmas.{Leaves-none, array-done, array-fails, array-uncounted}
use Rattle.pc_offset_wire.proofs.fetch_writing.put_entries.Goals as goal
use Rattle.pc_offset_wire.proofs.fetch_writing.put_entries.Goals.{in-Some+in_ok-put_entry, in_default}

abbrev no_entry : FetchEntry
no_entry = record { position = pos 0; metadata = None; code = pos 0 }

pub returns-in_err-put_count : goal.returns-in_err-put_count
returns-in_err-put_count c =
    let p = err_from_is_err_and c.from_residual.result c.from_residual.ensures.1 in
    let items = items_left part_id_at c.args.parts in
    let made = answered_items entry_for items c.args.entries.now in
    let same = length-answered entry_for items c.args.entries.now c.requires.count in
    rw (p.1, p.2) (array-uncounted entry_spelling IsEntry made (length c.args.entries.now) c.args.out.now.items c.put_count.new.out.items c.put_count.new.out.items _ same c.in_err-put_count.ensures)

pub returns : goal.returns
returns c =
    let items = items_left part_id_at c.args.parts in
    let made = answered_items entry_for items c.args.entries.now in
    let same = length-answered entry_for items c.args.entries.now c.requires.count in
    let none = answered-none entry_for (items_left part_id_at c.loop-entry.parts) (drop c.loop-entry.entry-index c.args.entries.now) (omega arith) in
    array-done entry_spelling IsEntry made (length c.args.entries.now) _ _ c.in_ok-put_count.ensures same _ (Leaves-none _ _ _ _ _ _ none c.loop-entry.invariant.left)

pub returns-in_err-put_entry : goal.returns-in_err-put_entry
returns-in_err-put_entry c =
    let p = err_from_is_err_and c.from_residual-in_err-put_entry.result c.from_residual-in_err-put_entry.ensures.1 in
    let made = answered_items entry_for (items_left part_id_at c.args.parts) c.args.entries.now in
    let same = length-answered entry_for (items_left part_id_at c.args.parts) c.args.entries.now c.requires.count in
    let now = c.put_entry.new.out.items in
    let others = items_left part_id_at c.next.new.self in
    let fits : FitsSigned w32 c.in-Some.part = search rules in
    let entry = get_or c.args.entries.now c.loop-entry.entry-index no_entry in
    let put = subst (λ part. Puts (entry_spelling (entry_for part entry)) (IsEntry (entry_for part entry)) c.loop-entry.out.items now (Err c.in_err-put_entry.field-0.0)) (to_z-of_z w32 c.in-Some.part fits) c.in_err-put_entry.ensures in
    let fails = answer-fails entry_for entry_spelling IsEntry made c.put_count.new.out.items c.loop-entry.out.items _ others c.args.entries.now c.loop-entry.entry-index c.in-Some.part c.in-Some.ensures.steps c.loop-entry-test.true c.loop-entry.invariant.left no_entry now now _ put in
    rw (p.1, p.2) (array-fails entry_spelling IsEntry made (length c.args.entries.now) c.args.out.now.items _ c.in_ok-put_count.ensures same _ now now fails)

pub loop-entry-preserved : goal.loop-entry-preserved
loop-entry-preserved c =
    let others = items_left part_id_at c.next.new.self in
    elim c.match-next.branch [
      | in-Some+in_ok-put_entry w ↦
          let fits : FitsSigned w32 w.in-Some.part = search rules in
          let item = entry_for w.in-Some.part (get_or c.args.entries.now c.loop-entry.entry-index no_entry) in
          let put : (c.match-next.out.items ≡ c.loop-entry.out.items ++ entry_spelling item) × IsEntry item = rw (← to_z-of_z w32 w.in-Some.part fits, w.out-is) w.in_ok-put_entry.ensures in
          record {
            left = answer-one entry_for entry_spelling IsEntry _ _ c.loop-entry.out.items _ others c.args.entries.now c.loop-entry.entry-index w.in-Some.part w.in-Some.ensures.steps c.loop-entry-test.true c.loop-entry.invariant.left no_entry _ put;
            same = omega (arith, ap length w.in-Some.ensures.steps);
          }
      | in_default w ↦ absurd (omega (arith, ap length w.in_default.ensures.steps.0))
    ]
