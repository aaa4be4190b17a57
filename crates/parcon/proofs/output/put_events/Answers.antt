-- One line more is on its way, or the front of all lines stands in the sink.
use Rattle.std.proofs.Common.{◌+◌, ◌∙◌, ◌++◌, subst, take}
use Rattle.std.specs.List.{flat_map}
use Rattle.pc_print.specs.Line.{line_of}
use Rattle.parcon.specs.Written.{HasFront, IsOnItsWay}
use Rattle.parcon.proofs.WrittenLemmas.{way-put, front-of-way, front-of-all, lines-more, on_err}
use Rattle.parcon.proofs.output.put_events.Goals as goal

pub returns-in_err-put_event-clause-err : goal.returns-in_err-put_event-clause-err
returns-in_err-put_event-clause-err g c before text way =
    on_err c.from_residual.result
    (front-of-all line_of c.args.events.now c.loop-event.event-index before
    (g.O.Sink.written c.loop-event.out) text
    (front-of-way before (g.O.Sink.written c.loop-event.out) c.loop-event.buffer.items
    (text ++ flat_map line_of (take c.loop-event.event-index c.args.events.now))
    (c.loop-event.invariant.way before text way)))

pub returns-in_err-flush_long-clause-err : goal.returns-in_err-flush_long-clause-err
returns-in_err-flush_long-clause-err g c before text way =
    let so_far = text ++ flat_map line_of (take c.loop-event.event-index c.args.events.now) in
    on_err c.from_residual-in_err-flush_long.result
    (front-of-all line_of c.args.events.now (c.loop-event.event-index + 1) before
    (g.O.Sink.written c.flush_long.new.out) text
    (subst (HasFront before (g.O.Sink.written c.flush_long.new.out))
    (lines-more line_of c.args.events.now c.loop-event.event-index c.event-item.result _ text
    c.loop-event-test.true c.event-item.is)
    (c.in_err-flush_long.ensures.err before _
    (way-put before (g.O.Sink.written c.loop-event.out) c.loop-event.buffer.items
    c.put_event.new.out.items so_far _ (c.loop-event.invariant.way before text way)
    c.in_ok-put_event.ensures.ok))))

pub loop-event-preserved : goal.loop-event-preserved
loop-event-preserved g c = record {
  way = λ before text way.
      let so_far = text ++ flat_map line_of (take c.loop-event.event-index c.args.events.now) in
      subst (IsOnItsWay before (g.O.Sink.written c.flush_long.new.out)
      c.flush_long.new.buffer.items)
      (lines-more line_of c.args.events.now c.loop-event.event-index c.event-item.result _ text
      c.loop-event-test.true c.event-item.is)
      (c.in_ok-flush_long.ensures.ok before _
      (way-put before (g.O.Sink.written c.loop-event.out) c.loop-event.buffer.items
      c.put_event.new.out.items so_far _ (c.loop-event.invariant.way before text way)
      c.in_ok-put_event.ensures.ok));
  count = c.in_ok-flush_long.ensures.unfailed ∙ c.loop-event.invariant.count;
}
