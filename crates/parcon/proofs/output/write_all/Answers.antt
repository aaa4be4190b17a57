-- One write more.
use Rattle.std.proofs.Common.{◌∙◌}
use Rattle.parcon.proofs.WrittenLemmas.{way-on}
use Rattle.parcon.proofs.output.write_all.Goals as goal

pub loop-rest-preserved : goal.loop-rest-preserved
loop-rest-preserved g c = record {
  way = way-on (g.O.Sink.written c.args.out.now) (g.O.Sink.written c.loop-rest.out)
      (g.O.Sink.written c.write.new.self) c.loop-rest.rest.now c.args.bytes.now c.in_ok-n.n
      c.in_ok-n.ensures.within c.loop-rest.invariant.way c.in_ok-n.ensures.appended;
  count = c.in_ok-n.ensures.unfailed ∙ c.loop-rest.invariant.count;
}
