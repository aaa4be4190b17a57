use Rattle.pc_batch.specs.Records.{front_records}
use Rattle.pc_batch.proofs.batch.Batch.records.Goals as goal

pub returns-then-self : goal.returns-then-self
unfolding front_records
returns-then-self c = rw (← c.self.view_is, c.if-self.true) c.new.ensures
