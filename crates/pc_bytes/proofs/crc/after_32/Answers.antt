use Rattle.pc_bytes.proofs.CrcTables.{after_32_is}
use Rattle.pc_bytes.proofs.crc.after_32.Goals as goal

pub returns : goal.returns
returns c = after_32_is c.args.byte c.ranges.byte.fits
