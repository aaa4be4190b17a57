-- The bytes of the number and those of the bits.
use Rattle.pc_bitset.proofs.PackingLemmas.{length-bitset_spelling}
use Rattle.pc_bitset.proofs.version.length.Goals as goal

pub returns : goal.returns
returns c =
    rw c.div_ceil.ensures
    (length-bitset_spelling c.args.width c.count-count.result c.args.bits.now c.count-count.ensures.count c.if-not-fits.ensures)
