use Rattle.pc_bytes.proofs.CrcTables.{after_56_is}
use Rattle.pc_bytes.proofs.crc.after_56.Goals as goal

pub returns : goal.returns
returns c = after_56_is c.args.byte c.ranges.byte.fits
