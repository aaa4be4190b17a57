-- A start is refused where its part stands in an earlier one.
use Rattle.std.proofs.Common.{◌≡◌, ◌==◌, true, false, take, arith}
use Rattle.std.specs.List.{list_any}
use Rattle.std.proofs.lemmas.Grind.{common_steps}
use Rattle.pc_model.proofs.RangesLemmas.{twice_fault-found, twice_fault-passed}
use Rattle.pc_model.proofs.setup.check_parts.Goals as goal

pub returns-then-has_part : goal.returns-then-has_part
returns-then-has_part c =
    let found : list_any (λ t. t.part == c.index-starts-i.result.part) (take c.loop-i.i c.args.starts.now) ≡ true
    = grind (arith, common_steps, c.if-has_part.ensures) in
    rw (twice_fault-found c.args.starts.now c.loop-i.i c.index-starts-i.result c.loop-i-test.true c.index-starts-i.is found c.loop-i.invariant)

pub loop-i-preserved : goal.loop-i-preserved
loop-i-preserved c =
    let free : list_any (λ t. t.part == c.index-starts-i.result.part) (take c.loop-i.i c.args.starts.now) ≡ false
    = grind (arith, common_steps, c.if-has_part.ensures) in
    twice_fault-passed c.args.starts.now c.loop-i.i c.index-starts-i.result c.loop-i-test.true c.index-starts-i.is free c.loop-i.invariant
