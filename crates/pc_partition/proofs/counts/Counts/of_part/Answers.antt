-- The part stands between the first ones and the last ones.
use Rattle.std.proofs.Common.{arith, refl}
use Rattle.pc_partition.proofs.CountsLemmas.{IsCutTwice-runs, back-of, middle-of}
use Rattle.pc_partition.proofs.counts.Counts.of_part.Goals as goal

pub count_long-requires-clause-in_order : goal.count_long-requires-clause-in_order
count_long-requires-clause-in_order c = rw c.start_at-end.ensures (IsCutTwice-runs c.args.first c.args.behind c.args.end c.args.runs.now
    c.requires.in_order c.requires.within).in_order

pub count_long-requires-clause-small : goal.count_long-requires-clause-small
count_long-requires-clause-small c =
    let small = (IsCutTwice-runs c.args.first c.args.behind c.args.end c.args.runs.now
    c.requires.in_order c.requires.within).small in
    omega (arith, small, c.start_at-end.ensures, c.requires.small)

pub count_long-requires-2-clause-in_order : goal.count_long-requires-2-clause-in_order
count_long-requires-2-clause-in_order c = rw c.start_at-end.ensures (IsCutTwice-runs c.args.first c.args.behind c.args.end c.args.runs.now
    c.requires.in_order c.requires.within).in_order

pub count_long-requires-2-clause-small : goal.count_long-requires-2-clause-small
count_long-requires-2-clause-small c =
    let small = (IsCutTwice-runs c.args.first c.args.behind c.args.end c.args.runs.now
    c.requires.in_order c.requires.within).small in
    omega (arith, small, c.start_at-end.ensures, c.requires.small)

pub returns : goal.returns
returns c = λ front middle back is first_is behind_is.
    rw (
      c.count_long.ensures,
      c.count_long-2.ensures,
      c.start_at-end.ensures,
      middle-of c.args.first c.args.behind c.args.runs.now front middle back is first_is behind_is,
      back-of c.args.first c.args.behind c.args.runs.now front middle back is first_is behind_is,
    ) refl
