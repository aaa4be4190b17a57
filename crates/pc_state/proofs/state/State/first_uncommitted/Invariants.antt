use Rattle.std.proofs.Common.{◌≡◌, ◌-◌, List}
use Rattle.std.specs.List.{range_with_len}
use Rattle.pc_model.specs.declared.event.Event.{Event}
use Rattle.pc_model.specs.Given.{Given}
use Rattle.pc_model.specs.Numbers.{first_some}
use Rattle.pc_state.specs.Queries.{first_uncommitted, uncommitted_at}
use Rattle.pc_state.specs.State.{Knows}
use Rattle.pc_state.proofs.state.State.first_uncommitted.Given as goal

-- none of the parts before this one has one
abbrev pub invariant-loop-part : goal.invariant-loop-part
invariant-loop-part l = (given : Given) (h : List Event) → Knows given h l.self
    → first_uncommitted given h
    ≡ first_some (uncommitted_at given h) (range_with_len l.part (l.part-end - l.part))
