use Rattle.pc_bytes.proofs.CrcTables.{after_40_is}
use Rattle.pc_bytes.proofs.crc.after_40.Goals as goal

pub returns : goal.returns
returns c = after_40_is c.args.byte c.ranges.byte.fits
