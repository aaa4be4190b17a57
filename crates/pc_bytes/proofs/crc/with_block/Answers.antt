use Rattle.std.proofs.Common.{arith}
use Rattle.pc_bytes.proofs.CrcLemmas.{with_block-looked_up}
use Rattle.pc_bytes.proofs.crc.with_block.Goals as goal

pub returns : goal.returns
returns c =
    with_block-looked_up c.args.register c.to_le_bytes.result c.args.block.now _ _ _ _ _ _ _ _ c.ranges.register.fits c.requires (λ i. omega (arith, c.type_inv.block i)) c.to_le_bytes.ensures
    c.after_8.ensures c.after_16.ensures c.after_24.ensures c.after_32.ensures c.after_40.ensures c.after_48.ensures c.after_56.ensures c.after_64.ensures
