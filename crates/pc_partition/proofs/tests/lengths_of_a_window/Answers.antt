-- The first offset is open.
use Rattle.std.proofs.Common.{eqb, ap}
use Rattle.std.specs.List.{list_any}
use Rattle.pc_partition.proofs.tests.lengths_of_a_window.Goals as goal

pub succeed-requires : goal.succeed-requires
succeed-requires g c = ap (list_any (λ o. eqb o 0)) c.in_ok-state.ensures.incomplete
