-- The letter's encoding is a RunLength.
use Rattle.pc_model.specs.MapSpelling.{spelling_of}
use Rattle.pc_runlength.proofs.version.length_v2.Goals as goal

pub returns : goal.returns
unfolding spelling_of
returns c = c.length.ensures
