use Rattle.pc_bytes.proofs.CrcTables.{after_64_is}
use Rattle.pc_bytes.proofs.crc.after_64.Goals as goal

pub returns : goal.returns
returns c = after_64_is c.args.byte c.ranges.byte.fits
