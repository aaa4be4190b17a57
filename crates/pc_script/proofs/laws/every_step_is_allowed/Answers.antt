-- The law is a lemma on steps.
use Rattle.pc_script.proofs.StepsLemmas.{AreAllowed-steps_of}
use Rattle.pc_script.proofs.laws.every_step_is_allowed.Goals as goal

pub returns : goal.returns
returns c = AreAllowed-steps_of
