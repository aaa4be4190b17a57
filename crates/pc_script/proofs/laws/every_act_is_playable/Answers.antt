-- The law is a lemma on play scripts.
use Rattle.pc_script.proofs.PlayScriptLemmas.{ArePlayable-script_of}
use Rattle.pc_script.proofs.laws.every_act_is_playable.Goals as goal

pub returns : goal.returns
returns c = ArePlayable-script_of
