use Rattle.pc_bytes.proofs.CrcTables.{after_24_is}
use Rattle.pc_bytes.proofs.crc.after_24.Goals as goal

pub returns : goal.returns
returns c = after_24_is c.args.byte c.ranges.byte.fits
