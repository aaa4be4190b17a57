-- The runs below one index end before the place, and those from the other on begin after it.
use Rattle.std.proofs.Common.{◌-◌}
use Rattle.pc_offset_map.specs.Search.{IsBetween}
use Rattle.pc_offset_map.proofs.map.is_zero.Given as goal

abbrev pub invariant-loop-low : goal.invariant-loop-low
invariant-loop-low l = IsBetween l.bits l.place l.low l.high

abbrev pub decreases-loop-low : goal.decreases-loop-low
decreases-loop-low l = l.high - l.low
