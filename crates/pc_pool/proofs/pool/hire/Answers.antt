-- A sender that was taken has put nothing, and so have those that are left.
use Rattle.std.proofs.Common.{◌∙◌, ap, arith}
use Rattle.std.proofs.lemmas.List.Elements.{All-take}
use Rattle.pc_pool.specs.Run.{IsFresh}
use Rattle.pc_pool.proofs.pool.hire.Goals as goal

pub loop-number-preserved : goal.loop-number-preserved
loop-number-preserved g c =
    let same = c.split-pass.ensures.same in
    let before = c.loop-number.invariant.0 in
    let rested = c.loop-number.invariant.1 in (
      record {
        same = same.same ∙ before.same;
        start = ap (λ m. m.0.start) same.knows ∙ before.start;
        told = ap (λ m. m.0.told) same.knows ∙ before.told;
      },
      record {
        stage = ap (λ m. m.0.stage) same.knows ∙ rested.stage;
        slots = ap (λ m. m.1) same.knows ∙ rested.slots;
      },
      rw c.pop.ensures.rest (All-take (λ s. IsFresh c.args.mail.now s) _ c.loop-number.senders.items
          c.loop-number.invariant.2),
      let len = c.push_reserved.ensures.len in let was = c.loop-number.invariant.3 in omega (arith, len, was),
      let capacity = c.push_reserved.ensures.capacity in let was = c.loop-number.invariant.4 in
          omega (arith, capacity, was),
      let left = c.in-Some.ensures.cases in let was = c.loop-number.invariant.5 in omega (arith, left, was),
    )
