-- A sender puts at its next place.
use Rattle.std.proofs.Common.{refl}
use Rattle.pc_mailbox.proofs.DeliveryLemmas.{puts}
use Rattle.pc_mailbox.proofs.mailbox.Mailbox.put.Goals as goal

pub push_as-requires-clause-rule : goal.push_as-requires-clause-rule
push_as-requires-clause-rule g c = λ n. puts n _ _ _ _ _ c.sender.invariant.0 refl c.sender.invariant.1
