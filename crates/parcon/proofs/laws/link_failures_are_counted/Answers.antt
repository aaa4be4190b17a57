use Rattle.parcon.proofs.ToldLemmas.{failures-counted}
use Rattle.parcon.proofs.laws.link_failures_are_counted.Goals as goal

pub returns : goal.returns
returns c = failures-counted
