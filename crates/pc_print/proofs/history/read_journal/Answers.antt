-- One line more: an event, or the fault.
use Rattle.std.proofs.Common.{◌+◌, length, ap, ◌∙◌, arith}
use Rattle.std.proofs.lemmas.Result.{err_from_is_err_and}
use Rattle.pc_print.proofs.TextLemmas.{events_over-read, events_over-bad, events_over-end, history_of-is}
use Rattle.pc_print.proofs.history.read_journal.Goals as goal

pub returns-in_err-event : goal.returns-in_err-event
returns-in_err-event c =
    let p = err_from_is_err_and c.from_residual.result c.from_residual.ensures.1 in
    rw (p.1, p.2, history_of-is) (events_over-bad c.loop-line.journal.events (c.loop-line.number + 1) c.in-Some.line.now c.next.new.self c.loop-line.line-iterator _ c.in-Some.ensures.steps c.loop-line.invariant.whole c.in_err-event.field-0.0 c.in_err-event.ensures)

pub loop-line-preserved : goal.loop-line-preserved
loop-line-preserved c = record {
  counted = omega (arith, ap length c.in-Some.ensures.steps);
  whole = rw (c.push.ensures.events, c.in_ok-reserve.ensures.events) (events_over-read c.loop-line.journal.events (c.loop-line.number + 1) c.in-Some.line.now c.next.new.self c.loop-line.line-iterator _ c.in-Some.ensures.steps c.loop-line.invariant.whole c.in_ok-event.event c.in_ok-event.ensures);
}

pub returns : goal.returns
returns c = history_of-is _ ∙ events_over-end c.loop-line.journal.events (c.loop-line.number + 1) c.loop-line.line-iterator _ c.in-None.ensures.steps.0 c.loop-line.invariant.whole
