-- The sender put as many as it counted.
use Rattle.std.proofs.Common.{◌≡◌, ◌≤◌, length}
use Rattle.pc_mailbox.proofs.tests.send.Given as goal

abbrev pub invariant-loop : goal.invariant-loop
invariant-loop g l = record {
  own : l.sender.mailbox ≡ l.mailbox;
  few : length l.sender.put ≤ l.next;
  small : l.next ≤ 10000;
}
