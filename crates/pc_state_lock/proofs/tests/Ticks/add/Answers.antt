use Rattle.pc_state_lock.proofs.HistoryLemmas.{Continues-one}
use Rattle.pc_state_lock.proofs.tests.Ticks.add.Goals as goal

pub returns-then-is_ok-clause-events : goal.returns-then-is_ok-clause-events
returns-then-is_ok-clause-events c = Continues-one _ _ _ _ c.push.ensures.events c.reserve.ensures.events
