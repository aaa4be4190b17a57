-- One line more is on its way, or the front of all lines stands in the sink.
use Rattle.std.proofs.Common.{◌+◌, ◌∙◌, ◌++◌, refl, subst, take}
use Rattle.std.specs.List.{flat_map}
use Rattle.parcon.specs.Remark.{remark_line}
use Rattle.parcon.specs.Written.{HasFront, IsOnItsWay}
use Rattle.parcon.proofs.WrittenLemmas.{way-put, front-of-way, front-of-all, lines-more, on_err}
use Rattle.parcon.proofs.output.put_remarks.Goals as goal

pub returns-in_err-put_remark-clause-err : goal.returns-in_err-put_remark-clause-err
returns-in_err-put_remark-clause-err g c before text way =
    on_err c.from_residual.result
    (front-of-all remark_line c.args.remarks.now c.loop-remark.remark-index before
    (g.O.Sink.written c.loop-remark.out) text
    (front-of-way before (g.O.Sink.written c.loop-remark.out) c.loop-remark.buffer.items
    (text ++ flat_map remark_line (take c.loop-remark.remark-index c.args.remarks.now))
    (c.loop-remark.invariant.way before text way)))

pub returns-in_err-flush_long-clause-err : goal.returns-in_err-flush_long-clause-err
returns-in_err-flush_long-clause-err g c before text way =
    let so_far = text ++ flat_map remark_line (take c.loop-remark.remark-index c.args.remarks.now) in
    on_err c.from_residual-in_err-flush_long.result
    (front-of-all remark_line c.args.remarks.now (c.loop-remark.remark-index + 1) before
    (g.O.Sink.written c.flush_long.new.out) text
    (subst (HasFront before (g.O.Sink.written c.flush_long.new.out))
    (lines-more remark_line c.args.remarks.now c.loop-remark.remark-index _ _ text
    c.loop-remark-test.true refl)
    (c.in_err-flush_long.ensures.err before _
    (way-put before (g.O.Sink.written c.loop-remark.out) c.loop-remark.buffer.items
    c.put_remark.new.out.items so_far _ (c.loop-remark.invariant.way before text way)
    c.in_ok-put_remark.ensures.ok))))

pub loop-remark-preserved : goal.loop-remark-preserved
loop-remark-preserved g c = record {
  way = λ before text way.
      let so_far = text ++ flat_map remark_line (take c.loop-remark.remark-index c.args.remarks.now) in
      subst (IsOnItsWay before (g.O.Sink.written c.flush_long.new.out)
      c.flush_long.new.buffer.items)
      (lines-more remark_line c.args.remarks.now c.loop-remark.remark-index _ _ text
      c.loop-remark-test.true refl)
      (c.in_ok-flush_long.ensures.ok before _
      (way-put before (g.O.Sink.written c.loop-remark.out) c.loop-remark.buffer.items
      c.put_remark.new.out.items so_far _ (c.loop-remark.invariant.way before text way)
      c.in_ok-put_remark.ensures.ok));
  count = c.in_ok-flush_long.ensures.unfailed ∙ c.loop-remark.invariant.count;
}
