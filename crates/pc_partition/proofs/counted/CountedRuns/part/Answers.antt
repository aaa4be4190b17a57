-- The runs up to high are the first ones.
use Rattle.std.proofs.Common.{take, sym, ap, ◌∙◌, arith}
use Rattle.std.proofs.lemmas.List.{length-take-le}
use Rattle.pc_partition.proofs.CountsLemmas.{upto-few, upto-take}
use Rattle.pc_partition.proofs.counted.CountedRuns.part.Goals as goal

pub slice_bounds-upto-end : goal.slice_bounds-upto-end
slice_bounds-upto-end c = rw c.deref.ensures.value (
    let few = upto-few c.args.self.now.high c.args.self.now.list.items in
    sym (length-take-le c.args.self.now.counts.runs c.args.self.now.list.items (omega (arith, few, c.requires.count_is))))

pub of_part-requires-clause-in_order : goal.of_part-requires-clause-in_order
of_part-requires-clause-in_order c = rw (
  c.deref.ensures.value,
  c.end_behind.ensures,
  c.requires.count_is,
  upto-take c.args.self.now.high c.args.self.now.list.items,
) c.requires.in_order

pub of_part-requires-clause-within : goal.of_part-requires-clause-within
of_part-requires-clause-within c = rw (
  c.deref.ensures.value,
  c.requires.count_is,
  upto-take c.args.self.now.high c.args.self.now.list.items,
) (omega (arith, c.requires.within, c.requires.count_is))

pub returns : goal.returns
returns c = λ front middle back is first_is behind_is.
    rw c.end_behind.ensures at (c.of_part.ensures front middle back
    (ap (take c.args.self.now.counts.runs) c.deref.ensures.value ∙ ap (λ n. take n c.args.self.now.list.items) c.requires.count_is
    ∙ upto-take c.args.self.now.high c.args.self.now.list.items ∙ is) first_is behind_is)
