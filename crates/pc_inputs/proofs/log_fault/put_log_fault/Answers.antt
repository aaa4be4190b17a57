-- The words of the long name.
use Rattle.std.proofs.Common.{ap, sym}
use Rattle.pc_inputs.specs.LogFault.{fault_words}
use Rattle.pc_inputs.proofs.LogFaultLemmas.{on-words}
use Rattle.pc_inputs.proofs.log_fault.put_log_fault.Goals as goal

pub returns-in-OffsetsFall-clause-ok : goal.returns-in-OffsetsFall-clause-ok
returns-in-OffsetsFall-clause-ok c =
    on-words c.put_two.result _ _ _ _ _ _ (ap fault_words (sym c.in-OffsetsFall.is))
    c.put_two.ensures.ok
