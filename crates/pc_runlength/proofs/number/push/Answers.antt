-- A number that fits is below the power of its bytes.
use Rattle.pc_model.proofs.ReadingLemmas.{number_fits-lt}
use Rattle.pc_runlength.proofs.number.push.Goals as goal

pub write_uint-requires-clause-fits : goal.write_uint-requires-clause-fits
write_uint-requires-clause-fits c = number_fits-lt c.args.width c.args.n c.requires.fits
