use Rattle.std.proofs.Common.{◌≡◌, List, true, subst}
use Rattle.pc_model.specs.Given.{rises_from}
use Rattle.pc_batch.specs.Batch.{Placed}
use Rattle.pc_cursor.specs.Log.{records_of, contents_of}
use Rattle.pc_cursor.proofs.Standing.{checked-rise}
use Rattle.pc_cursor.proofs.log.Log.records.Goals as goal

pub returns-clause-rise : goal.returns-clause-rise
returns-clause-rise c = subst (λ (l : List Placed). rises_from 0 (records_of (contents_of l))
    ≡ true) c.self.view_is (checked-rise c.self.inside.bytes.now c.self.invariant.0.checked)
