-- The offsets follow the begin, and the second is open.
use Rattle.std.proofs.Common.{◌≡◌, [], eqb, ap, refl, lit<, arith}
use Rattle.std.specs.List.{list_any}
use Rattle.pc_model.specs.Marks.{end_at}
use Rattle.pc_partition.proofs.tests.the_second_of_three_succeeds.Goals as goal

pub polled-requires-clause-rises : goal.polled-requires-clause-rises
unfolding end_at
polled-requires-clause-rises g c =
    let to : c.in_ok-state.state.window.polled_to ≡ 0 = c.in_ok-state.ensures.polled_to in
    (omega (arith, to), lit< tt, (omega arith, lit< tt, (omega arith, lit< tt, lit< tt)))

pub succeed-requires : goal.succeed-requires
succeed-requires g c =
    ap (list_any (λ o. eqb o 1)) (c.in_ok-polled.ensures.polled 0 0 [] c.in_ok-state.ensures refl).incomplete
