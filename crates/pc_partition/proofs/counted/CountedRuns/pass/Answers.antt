-- The search counts the runs up to the offset.
use Rattle.pc_partition.proofs.CountsLemmas.{count-below}
use Rattle.pc_partition.proofs.counted.CountedRuns.pass.Goals as goal

pub returns-clause-runs : goal.returns-clause-runs
returns-clause-runs c = rw (← c.as_slice.ensures.value) (count-below c.args.high c.count_upto-self.result c.as_slice.result.now
    c.count_upto-self.ensures.within c.count_upto-self.ensures.upto c.count_upto-self.ensures.above)
