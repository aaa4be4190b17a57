-- The senders so far, each with its number, of which nothing was taken.
use Rattle.std.proofs.Common.{◌≡◌, ◌<◌, ℕ, [], None, Some, replicate, slice_get, vec_len}
use Rattle.pc_mailbox.specs.declared.delivery.Known.TheVariants.{Receives}
use Rattle.pc_mailbox.proofs.mailbox.Mailbox.new.Given as goal

abbrev pub invariant-loop-number : goal.invariant-loop-number
invariant-loop-number g l = record {
  own : l.pass.web ≡ l.mailbox;
  free : l.pass.me.hand ≡ None;
  spare : l.pass.me.spare ≡ None;
  view : l.pass.me.view.client ≡ Receives (replicate l.number []) 0;
  many : vec_len l.ends ≡ l.number;
  each : (k : ℕ) → k < l.number → slice_get l.ends.items k ≡ Some (record { mailbox = l.mailbox; number = k; put = [] });
}
