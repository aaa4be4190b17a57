-- One run after the other, each with the 1 bits before it.
use Rattle.pc_partition.proofs.CountsLemmas.{IsCountingNext-one}
use Rattle.pc_partition.proofs.counts.count_long.Goals as goal

pub loop-start-preserved : goal.loop-start-preserved
loop-start-preserved c = rw (c.one_if_long.ensures, c.one_if_long-in-loop-start.ensures) ((IsCountingNext-one c.args.limit c.args.end c.loop-start.place c.loop-start.count
    c.loop-start.start-index c.args.runs.now (0, 0) c.loop-start.invariant c.requires.in_order c.requires.small
    c.loop-start-test.true).next)
