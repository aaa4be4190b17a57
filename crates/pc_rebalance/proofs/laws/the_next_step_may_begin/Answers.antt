-- The law is a lemma over plain variables.
use Rattle.pc_rebalance.proofs.BlockLemmas.{due-begins}
use Rattle.pc_rebalance.proofs.laws.the_next_step_may_begin.Goals as goal

pub returns : goal.returns
returns c = due-begins
