-- None are left.
use Rattle.std.proofs.lemmas.List.{drop_all}
use Rattle.pc_partition.proofs.tests.rise.Goals as goal

pub returns : goal.returns
returns c = λ all. c.loop-offset.invariant.rises
    (rw (drop_all c.loop-offset.offset-index c.args.pairs.now c.loop-offset-test.false) c.loop-offset.invariant.small)
