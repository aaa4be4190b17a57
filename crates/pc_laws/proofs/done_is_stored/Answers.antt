-- A finished part has all its records below its position, and that is stored.
use Rattle.pc_laws.proofs.DoneLaw.{done_is_stored}
use Rattle.pc_laws.proofs.done_is_stored.Goals as goal

pub returns : goal.returns
returns c = λ given h p d r legal held i j. done_is_stored given h legal p held d i r j
