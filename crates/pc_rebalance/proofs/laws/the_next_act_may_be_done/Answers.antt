-- The law is a lemma on the parts that are held.
use Rattle.pc_rebalance.proofs.HeldLemmas.{next-may-be-done}
use Rattle.pc_rebalance.proofs.laws.the_next_act_may_be_done.Goals as goal

pub returns : goal.returns
returns c = next-may-be-done
