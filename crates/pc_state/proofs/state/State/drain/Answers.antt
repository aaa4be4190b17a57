use Rattle.pc_state.proofs.PhaseLemmas.{knows-drain}
use Rattle.pc_state.proofs.state.State.drain.Goals as goal

pub returns : goal.returns
returns c = λ given h knows may. knows-drain given h c.args.self.now c.drain.new.self knows may
    (c.drain.ensures given h knows.ledger)
