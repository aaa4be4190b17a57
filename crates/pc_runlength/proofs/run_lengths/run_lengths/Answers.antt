-- The walk begins before the first run.
use Rattle.std.proofs.Common.{arith}
use Rattle.pc_model.proofs.RunLemmas.{length-run_lengths}
use Rattle.pc_model.proofs.RunsAt.{IsAtRun-start}
use Rattle.pc_runlength.proofs.run_lengths.run_lengths.Goals as goal

pub invariant_of-result : goal.invariant_of-result
invariant_of-result c = IsAtRun-start c.args.bits.now

pub returns-clause-few : goal.returns-clause-few
returns-clause-few c =
    let few = length-run_lengths c.args.bits.now in omega (arith, few, c.runs-few.ensures.few, c.runs-few.ensures.count)
