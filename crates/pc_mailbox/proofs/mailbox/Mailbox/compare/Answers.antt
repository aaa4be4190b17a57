-- The sender joins the inbox's pass, the two are compared, and it leaves again.
use Rattle.std.proofs.Common.{rules, ◌∙◌}
use Rattle.pc_mailbox.proofs.DeliveryLemmas.{joins, splits, agrees}
use Rattle.pc_mailbox.proofs.mailbox.Mailbox.compare.Goals as goal

pub absorb-requires-clause-rule : goal.absorb-requires-clause-rule
absorb-requires-clause-rule g c = joins _ _ _ _ _ _ _ _ c.inbox.invariant.0 c.sender.invariant.0

pub len_as-requires-clause-rule : goal.len_as-requires-clause-rule
len_as-requires-clause-rule g c = agrees _ _ _ _ _ _ c.absorb.ensures.rule

pub another-pass-requires-clause-rule : goal.another-pass-requires-clause-rule
another-pass-requires-clause-rule g c = splits _ _ _ _ _ _ (c.len_as.ensures.queue.2 ∙ c.absorb.ensures.rule)
