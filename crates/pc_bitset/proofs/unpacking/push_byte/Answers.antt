-- A byte of equal bits is one run.
use Rattle.std.proofs.Common.{sym}
use Rattle.pc_bitset.proofs.UnpackingLemmas.{byte_bits-all, byte_bits-none}
use Rattle.pc_bitset.proofs.unpacking.push_byte.Goals as goal

pub returns-in-0 : goal.returns-in-0
returns-in-0 c = rw (c.in-0.is, byte_bits-none c.args.n) c.push.ensures.ok

pub returns-in-255 : goal.returns-in-255
returns-in-255 c = rw (c.in-255.is, byte_bits-all c.args.n c.requires.few) c.push-in-255.ensures.ok
