-- So far empty parts were put behind the others.
use Rattle.std.proofs.Common.{◌+◌, ◌-◌, vec_len}
use Rattle.pc_retry.specs.Waiting.{KeepsParts}
use Rattle.pc_retry.proofs.queue.make_room.Given as goal

abbrev pub invariant-grow : goal.invariant-grow
invariant-grow l = KeepsParts l.initial.parts.items l.parts.items

abbrev pub decreases-grow : goal.decreases-grow
decreases-grow l = l.at + 1 - vec_len l.parts
