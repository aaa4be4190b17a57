-- The number, and the bits after it.
use Rattle.std.proofs.Common.{arith, sym}
use Rattle.std.proofs.lemmas.List.{take_rest}
use Rattle.pc_bitset.proofs.UnpackingLemmas.{bitset_reading-ok}
use Rattle.pc_bitset.proofs.version.decode.Goals as goal

pub returns-clause-ok : goal.returns-clause-ok
returns-clause-ok c =
    let few = rw (take_rest c.args.bytes.now c.args.width) at c.if-div_ceil-body.false in
    let bits = rw (take_rest c.args.bytes.now c.args.width) at c.in_ok-read_bits.ensures in
    bitset_reading-ok c.args.width c.in_ok-count.count c.args.bytes.now c.in_ok-read_bits.field-0 c.requires.few (sym c.in_ok-count.ensures) (omega (arith, few, c.div_ceil.ensures)) bits
