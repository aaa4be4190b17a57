-- A stale result touches no part, and the job that it settles is not current.
use Rattle.std.proofs.Common.{refl}
use Rattle.pc_model.specs.Known.{is_complete}
use Rattle.pc_laws.proofs.StaleLaw.{eligible_offsets-stale, next_record-stale}
use Rattle.pc_laws.proofs.stale_changes_nothing.Goals as goal

pub returns-clause-complete : goal.returns-clause-complete
unfolding is_complete
returns-clause-complete c = λ given h ticket p o. refl

pub returns-clause-stored : goal.returns-clause-stored
returns-clause-stored c = λ given h ticket p. refl

pub returns-clause-eligible : goal.returns-clause-eligible
returns-clause-eligible c = λ given h ticket p legal. eligible_offsets-stale given h ticket legal p

pub returns-clause-next : goal.returns-clause-next
returns-clause-next c = λ given h ticket legal. next_record-stale given h ticket legal
