-- The senders and the inbox stay those of the mailbox.
use Rattle.std.proofs.Common.{◌≡◌, []}
use Rattle.std.specs.Prelude.{All}
use Rattle.pc_drain.proofs.tests.answers.Given as goal

abbrev pub invariant-loop-i : goal.invariant-loop-i
invariant-loop-i g l = record {
  senders : All (λ s. (s.mailbox ≡ l.mailbox) × (s.put ≡ [])) l.senders.items;
  inbox : l.inbox.mailbox ≡ l.mailbox;
}
