-- By induction on the history.
use Rattle.pc_laws.proofs.SoundLaw.{is_sound}
use Rattle.pc_laws.proofs.legal_is_sound.Goals as goal

pub returns : goal.returns
returns c = is_sound
