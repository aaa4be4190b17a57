use Rattle.pc_bytes.proofs.CrcTables.{after_8_is}
use Rattle.pc_bytes.proofs.crc.after_8.Goals as goal

pub returns : goal.returns
returns c = after_8_is c.args.byte c.ranges.byte.fits
