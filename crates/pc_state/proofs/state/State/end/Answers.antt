use Rattle.pc_state.proofs.PhaseLemmas.{knows-closed, knows-done}
use Rattle.pc_state.proofs.state.State.end.Goals as goal

pub returns-clause-done : goal.returns-clause-done
returns-clause-done c = λ given h knows may. knows-done given h c.args.self.now c.end.new.self knows
    may (c.end.ensures.done given h knows.ledger)

pub returns-clause-closed : goal.returns-clause-closed
returns-clause-closed c = λ given h knows may. knows-closed given h c.args.self.now c.end.new.self
    knows may (c.end.ensures.closed given h knows.ledger)
