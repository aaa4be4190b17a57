-- The engine's faults for those of the crates below.
use Rattle.pc_offset_client.specs.declared.fault.ClientFault.{ClientFault}
use Rattle.pc_offset_client.specs.declared.fault.ClientFault.TheVariants as client
use Rattle.pc_engine.specs.declared.fault.EngineFault.{EngineFault}
use Rattle.pc_engine.specs.declared.fault.EngineFault.TheVariants.{BadMap, Client, NoMemory, NotDone, Uncommitted}
use Rattle.pc_commit.specs.declared.fault.ResumeFault.{ResumeFault}
use Rattle.pc_commit.specs.declared.fault.ResumeFault.TheVariants as resume
use Rattle.pc_state.specs.declared.queries.Unfinished.{Unfinished}
use Rattle.pc_state.specs.declared.queries.Unfinished.TheVariants as state

-- for a fault of the link's client
abbrev pub engine_fault_of : ClientFault → EngineFault
engine_fault_of client.NoMemory = NoMemory
engine_fault_of fault = Client fault

-- the same for why a part is not resumed
abbrev pub resume_fault_of : ResumeFault → EngineFault
resume_fault_of (resume.BadMap fault) = BadMap fault
resume_fault_of resume.NoMemory = NoMemory

-- the same for why not all is done
abbrev pub unfinished_fault : Unfinished → EngineFault
unfinished_fault (state.NotDone p o) = NotDone p o
unfinished_fault (state.Uncommitted p stored position) = Uncommitted p stored position
