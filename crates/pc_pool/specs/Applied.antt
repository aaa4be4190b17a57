-- What becomes of a run at a step that is due.
use Rattle.std.specs.Prelude.{ℕ, ◌+◌, Option, Some, None}
use Rattle.pc_engine.specs.declared.fault.EngineFault.{EngineFault}
use Rattle.pc_engine.specs.declared.fault.EngineFault.TheVariants as fault
use Rattle.pc_pool.specs.declared.ending.Ending.{Ending}
use Rattle.pc_pool.specs.declared.ending.Ending.TheVariants.{Client, BadMap, JournalFull, NoMemory}

-- how many steps are used up after one more, unless it ended the run
abbrev pub used_after : ℕ → Option Ending → ℕ
used_after used None = used + 1
used_after used (Some e) = used

-- the ending of a step's refusal, where this is the part that was not assigned
abbrev pub ending_by : EngineFault → Option ℕ → Ending
ending_by (fault.Client failed) part = Client failed
ending_by (fault.BadMap bad) (Some p) = BadMap p bad
ending_by fault.JournalFull part = JournalFull
ending_by _ part = NoMemory
