-- One run after the other, and then the 1 bits up to the end.
use Rattle.std.proofs.Common.{Bool, List, length, take, get_or, replicate, true, ◌-◌, ap, ◌∙◌, arith}
use Rattle.std.proofs.lemmas.List.{length-append, length-replicate, length-take-le}
use Rattle.pc_model.proofs.BitsLemmas.{AreRuns-lower}
use Rattle.pc_partition.proofs.BitsUpto.{IsBuilt-count, IsBuiltNext-below, bits-end}
use Rattle.pc_partition.proofs.runs.bits_upto.Goals as goal

pub count_upto-requires : goal.count_upto-requires
count_upto-requires c = AreRuns-lower 0 c.args.position _ c.args.runs.now (omega arith) c.requires.in_order

pub push-requires : goal.push-requires
push-requires c =
    let next = IsBuiltNext-below c.args.runs.now c.args.position c.args.high c.loop-start.place c.loop-start.start-index
    c.count_upto.result c.loop-start.bits (0, 0) c.loop-start.invariant c.count_upto.ensures.within
    c.loop-start-test.true c.count_upto.ensures.upto c.requires.apart in
    omega (arith, next.low, next.end, next.size, c.requires.small)

pub push-requires-in-loop-start : goal.push-requires-in-loop-start
push-requires-in-loop-start c =
    let next = IsBuiltNext-below c.args.runs.now c.args.position c.args.high c.loop-start.place c.loop-start.start-index
    c.count_upto.result c.loop-start.bits (0, 0) c.loop-start.invariant c.count_upto.ensures.within
    c.loop-start-test.true c.count_upto.ensures.upto c.requires.apart in
    let start = (get_or (take c.count_upto.result c.args.runs.now) c.loop-start.start-index (0, 0)).0 in
    let more = ap (λ (l : List Bool). length l) c.in_ok-push.ensures.ok in
    let len = length-append c.loop-start.bits (replicate (start - c.loop-start.place) true) in
    let ones = length-replicate {A = Bool} (start - c.loop-start.place) true in
    omega (arith, next.low, next.end, next.size, c.requires.small, more, len, ones)

pub loop-start-preserved : goal.loop-start-preserved
loop-start-preserved c =
    let next = IsBuiltNext-below c.args.runs.now c.args.position c.args.high c.loop-start.place c.loop-start.start-index
    c.count_upto.result c.loop-start.bits (0, 0) c.loop-start.invariant c.count_upto.ensures.within
    c.loop-start-test.true c.count_upto.ensures.upto c.requires.apart in
    rw (c.in_ok-push-2.ensures.ok, c.in_ok-push.ensures.ok) next.next

pub push-requires-2 : goal.push-requires-2
push-requires-2 c =
    let built = c.loop-start.invariant in
    let count = IsBuilt-count _ _ _ _ _ _ built in
    omega (arith, count, built.from, built.upto, c.requires.small)

pub returns : goal.returns
returns c =
    let len = length-take-le c.count_upto.result c.args.runs.now c.count_upto.ensures.within in
    c.in_ok-push-3.ensures.ok ∙ bits-end c.args.runs.now c.args.position c.args.high c.loop-start.place
    c.loop-start.start-index c.loop-start.bits c.loop-start.invariant
    (λ j d low less. c.count_upto.ensures.above j d (omega (arith, low, len, c.loop-start-test.false)) less)
