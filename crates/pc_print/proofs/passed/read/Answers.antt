-- The bits of the map that was read, or none.
use Rattle.std.proofs.Common.{inl, inr}
use Rattle.pc_print.specs.HeldParts.{plain_first}
use Rattle.pc_print.proofs.SummaryLemmas.{bits-read, bits-unread}
use Rattle.pc_print.proofs.passed.read.Goals as goal

pub returns-in-Ok-clause-bits : goal.returns-in-Ok-clause-bits
returns-in-Ok-clause-bits c = bits-read (plain_first c.args.commit.now) c.in-Ok.map
    (rw (c.as_bytes.ensures.value, c.as_str.ensures) at c.in-Ok.ensures.bits)

pub returns-in_ok-not_for_memory-in-Err-clause-bits : goal.returns-in_ok-not_for_memory-in-Err-clause-bits
returns-in_ok-not_for_memory-in-Err-clause-bits c = elim c.in-Err.ensures.fault [
  | inl memory ↦ absurd (c.in_ok-not_for_memory-in-Err.ensures memory)
  | inr unread ↦ bits-unread (plain_first c.args.commit.now) c.in-Err.fault (rw (c.as_bytes.ensures.value, c.as_str.ensures) at unread)
]
