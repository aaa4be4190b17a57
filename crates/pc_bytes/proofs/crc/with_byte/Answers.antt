use Rattle.std.proofs.Common.{refl}
use Rattle.pc_bytes.proofs.CrcLemmas.{with_byte-is}
use Rattle.pc_bytes.proofs.crc.with_byte.Goals as goal

pub returns : goal.returns
returns c =
    let h = with_byte-is c.args.register c.args.byte c.ranges.byte.fits in
    rw (c.after_8.ensures, c.to_le_bytes.ensures, h) refl
