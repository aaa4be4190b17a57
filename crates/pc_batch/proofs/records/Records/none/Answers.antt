use Rattle.std.proofs.Common.{refl}
use Rattle.pc_batch.specs.Records.{front_records}
use Rattle.pc_batch.proofs.records.Records.none.Goals as goal

pub returns : goal.returns
unfolding front_records
returns c = refl
