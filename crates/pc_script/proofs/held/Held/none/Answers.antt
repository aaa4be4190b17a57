-- All flags are down.
use Rattle.std.proofs.lemmas.List.{get_or-replicate}
use Rattle.pc_script.proofs.held.Held.none.Goals as goal

pub returns-clause-none : goal.returns-clause-none
returns-clause-none c = λ p lt. get_or-replicate 1024 p _ _ lt
