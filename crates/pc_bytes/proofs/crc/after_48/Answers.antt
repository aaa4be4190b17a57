use Rattle.pc_bytes.proofs.CrcTables.{after_48_is}
use Rattle.pc_bytes.proofs.crc.after_48.Goals as goal

pub returns : goal.returns
returns c = after_48_is c.args.byte c.ranges.byte.fits
