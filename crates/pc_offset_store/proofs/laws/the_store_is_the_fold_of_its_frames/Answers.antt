use Rattle.pc_offset_store.proofs.StoreLaw.{answered-frames}
use Rattle.pc_offset_store.proofs.laws.the_store_is_the_fold_of_its_frames.Goals as goal

pub returns : goal.returns
returns c = answered-frames
