use Rattle.std.proofs.Common.{◌≡◌, ◌≤◌, ◌-◌, List}
use Rattle.std.specs.List.{range_with_len}
use Rattle.pc_model.specs.declared.event.Event.{Event}
use Rattle.pc_model.specs.Given.{Given}
use Rattle.pc_model.specs.Numbers.{first_some}
use Rattle.pc_model.specs.Next.{next_of_part}
use Rattle.pc_state.specs.State.{Knows}
use Rattle.pc_state.proofs.state.State.next_within.Given as goal

-- none of the parts before this one has a record to dispatch
abbrev pub invariant-loop-part : goal.invariant-loop-part
invariant-loop-part l = (given : Given) (h : List Event) → Knows given h l.self → l.from ≤ l.to
    → first_some (next_of_part given h) (range_with_len l.from (l.to - l.from))
    ≡ first_some (next_of_part given h) (range_with_len l.part (l.to - l.part))
