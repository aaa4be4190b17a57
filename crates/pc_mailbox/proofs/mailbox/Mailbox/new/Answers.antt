-- The rule holds of the empty queue, and of one more sender.
use Rattle.std.proofs.Common.{[], rules, arith}
use Rattle.std.proofs.lemmas.Grind.{common_steps}
use Rattle.pc_mailbox.proofs.DeliveryLemmas.{begins, opens, nothing-more, each-more}
use Rattle.pc_mailbox.proofs.mailbox.Mailbox.new.Goals as goal

pub with_rule-requires : goal.with_rule-requires
with_rule-requires g c = begins

pub another-own-requires-clause-rule : goal.another-own-requires-clause-rule
another-own-requires-clause-rule g c = opens _ _ _ _ c.loop-number.invariant.view

pub loop-number-preserved : goal.loop-number-preserved
loop-number-preserved g c = let i = c.in_ok-push.ensures.items in record {
  own = search rules;
  free = search rules;
  spare = search rules;
  view = nothing-more _ _ _ _ c.another-own.ensures.rule.0 c.loop-number.invariant.view;
  many = grind (arith, common_steps);
  each = each-more _ _ (λ k. record { mailbox = c.loop-number.mailbox; number = k; put = [] }) _ _ i (grind (arith, common_steps)) (search rules) c.loop-number.invariant.each;
}
