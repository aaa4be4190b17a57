use Rattle.parcon.proofs.ToldLemmas.{calls-determined}
use Rattle.parcon.proofs.laws.a_play_is_determined.Goals as goal

pub returns : goal.returns
returns c = calls-determined
