-- The inbox stays that of the mailbox.
use Rattle.std.proofs.Common.{◌≡◌}
use Rattle.pc_mailbox.proofs.tests.results_are_taken_in_the_order_in_which_they_were_put.Given as goal

abbrev pub invariant-loop-ticket : goal.invariant-loop-ticket
invariant-loop-ticket g l = l.inbox.mailbox ≡ l.mailbox
