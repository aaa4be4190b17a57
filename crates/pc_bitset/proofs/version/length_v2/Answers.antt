-- The letter's encoding is a BitSet.
use Rattle.pc_model.specs.MapSpelling.{spelling_of}
use Rattle.pc_bitset.proofs.version.length_v2.Goals as goal

pub returns : goal.returns
unfolding spelling_of
returns c = c.length.ensures
