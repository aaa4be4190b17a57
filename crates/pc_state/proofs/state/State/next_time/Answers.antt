-- The retries are those of the records that wait.
use Rattle.std.proofs.Common.{◌∙◌}
use Rattle.pc_state.proofs.NextTime.{next_time-is}
use Rattle.pc_state.proofs.state.State.next_time.Goals as goal

pub returns : goal.returns
returns c = λ given h knows. c.next_time.ensures
    ∙ next_time-is given h knows.legal c.args.self.now.retries.retries knows.waiting
