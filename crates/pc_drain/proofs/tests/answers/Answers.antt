-- The senders are new.
use Rattle.std.proofs.Common.{◌<◌, ℕ, ap, arith}
use Rattle.std.proofs.lemmas.Option.{get_or_from_slice_get}
use Rattle.pc_drain.proofs.tests.answers.Goals as goal

pub loop-i-init : goal.loop-i-init
loop-i-init g c = record {
  senders = λ k d less.
      let count = c.in_ok-mailbox.senders.ok.0 in
      let four = c.in_ok-mailbox.ensures.senders in
      let below : k < 4 = omega (arith, less, count, four) in
      let at = get_or_from_slice_get c.in_ok-mailbox.senders.items k _ d
      (c.in_ok-mailbox.ensures.sender k below) in
      (ap (λ s. s.mailbox) at, ap (λ s. s.put) at);
  inbox = ap (λ i. i.mailbox) c.in_ok-mailbox.ensures.inbox;
}
