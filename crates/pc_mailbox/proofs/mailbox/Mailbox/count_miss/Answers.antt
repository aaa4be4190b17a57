-- A miss keeps the rule.
use Rattle.pc_mailbox.proofs.DeliveryLemmas.{misses}
use Rattle.pc_mailbox.proofs.mailbox.Mailbox.count_miss.Goals as goal

pub another-requires-clause-rule : goal.another-requires-clause-rule
another-requires-clause-rule g c = misses _ _ _ _ c.inbox.invariant.0
