use Rattle.parcon.proofs.ToldLemmas.{call-told}
use Rattle.parcon.proofs.laws.a_play_is_complete.Goals as goal

pub returns : goal.returns
returns c = call-told
