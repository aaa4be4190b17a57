-- While the retries are taken out whose time has come, the others stay.
use Rattle.std.proofs.Common.{List, length}
use Rattle.pc_model.specs.declared.event.Event.{Event}
use Rattle.pc_model.specs.declared.event.Event.TheVariants.{Tick}
use Rattle.pc_model.specs.Given.{Given}
use Rattle.pc_state.specs.State.{Knows, MayCome}
use Rattle.pc_state.proofs.TickLemmas.{Ticks}
use Rattle.pc_state.proofs.state.State.tick.Given as goal

abbrev pub invariant-loop-part : goal.invariant-loop-part
invariant-loop-part l = (given : Given) (h : List Event) → Knows given h l.fn.self
    → MayCome given (Tick l.now) h → Ticks given h l.now l.fn.self l.self

abbrev pub decreases-loop-part : goal.decreases-loop-part
decreases-loop-part l = length l.self.retries.retries
