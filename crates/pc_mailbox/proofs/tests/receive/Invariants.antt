-- The inbox stays that of the mailbox.
use Rattle.std.proofs.Common.{◌≡◌}
use Rattle.pc_mailbox.proofs.tests.receive.Given as goal

abbrev pub invariant-loop : goal.invariant-loop
invariant-loop g l = l.inbox.mailbox ≡ l.mailbox
