-- The law is a lemma on steps.
use Rattle.pc_script.proofs.StepsLemmas.{AreSteps-steps_of}
use Rattle.pc_script.proofs.laws.every_step_is_in_range.Goals as goal

pub returns : goal.returns
returns c = AreSteps-steps_of
