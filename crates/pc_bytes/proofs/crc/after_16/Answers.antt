use Rattle.pc_bytes.proofs.CrcTables.{after_16_is}
use Rattle.pc_bytes.proofs.crc.after_16.Goals as goal

pub returns : goal.returns
returns c = after_16_is c.args.byte c.ranges.byte.fits
