use Rattle.std.proofs.Common.{◌≡◌, ◌-◌, List}
use Rattle.std.specs.List.{list_all, range_with_len}
use Rattle.pc_model.specs.declared.event.Event.{Event}
use Rattle.pc_model.specs.Given.{Given}
use Rattle.pc_model.specs.Run.{is_at_rest}
use Rattle.pc_state.specs.Rest.{rests}
use Rattle.pc_state.specs.State.{Knows}
use Rattle.pc_state.proofs.state.State.at_rest.Given as goal

-- the parts before this one rest
abbrev pub invariant-loop-part : goal.invariant-loop-part
invariant-loop-part l = (given : Given) (h : List Event) → Knows given h l.self
    → is_at_rest given h ≡ list_all (rests given h) (range_with_len l.part (l.part-end - l.part))
