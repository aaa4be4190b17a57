-- A number of equal bits.
use Rattle.std.proofs.Common.{refl}
use Rattle.pc_model.proofs.BytesLemmas.{low_first-false}
use Rattle.pc_bitset.proofs.PackingLemmas.{low_first-ones}
use Rattle.pc_bitset.proofs.packing.equal_bits.Goals as goal

pub returns-then-bit : goal.returns-then-bit
returns-then-bit c = rw c.if-bit.true (low_first-ones c.args.n c.requires)

pub returns-else-bit : goal.returns-else-bit
returns-else-bit c = rw (c.if-bit.false, low_first-false c.args.n) refl
