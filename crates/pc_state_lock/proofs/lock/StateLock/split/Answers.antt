use Rattle.std.proofs.Common.{rules}
use Rattle.pc_state_lock.proofs.Steps.{splits}
use Rattle.pc_state_lock.proofs.lock.StateLock.split.Goals as goal

pub split_seat-requires : goal.split_seat-requires
split_seat-requires g c = (search rules, search rules, splits _ _ _ _ _)
