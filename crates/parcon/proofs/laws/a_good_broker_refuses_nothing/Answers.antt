use Rattle.parcon.proofs.ToldLemmas.{served-commit, served-fetch}
use Rattle.parcon.proofs.laws.a_good_broker_refuses_nothing.Goals as goal

pub returns : goal.returns
returns c = record { fetch = served-fetch; commit = served-commit }
