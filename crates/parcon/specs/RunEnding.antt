-- How a run ends, and the output of each ending.
use Rattle.std.specs.Prelude.{Bool, true, false, List, ℕ, [], ◌++◌, Option}
use Rattle.pc_model.specs.declared.event.Event.{Event}
use Rattle.pc_model.specs.declared.limits.TheConstants.{MAX_EVENTS}
use Rattle.pc_model.specs.declared.setup.Setup.{Setup}
use Rattle.pc_model.specs.Record.{Record}
use Rattle.pc_print.specs.Line.{text_of}
use Rattle.pc_print.specs.Summary.{summary_of}
use Rattle.pc_inputs.specs.declared.status.LimitKind.TheVariants.{Events}
use Rattle.pc_inputs.specs.declared.status.Status.{Status}
use Rattle.pc_inputs.specs.declared.status.Status.TheVariants as status
use Rattle.pc_inputs.specs.Status.{fault_line}
use Rattle.pc_pool.specs.declared.ending.Ending.{Ending}
use Rattle.pc_pool.specs.declared.ending.Ending.TheVariants.{Done, Undrained, Client, BadMap, JournalFull, NoMemory}

-- the status of a run's ending
abbrev pub ending_status : Ending → Status
ending_status Done = status.Whole
ending_status (Undrained part offset failures) = status.Undrained part offset failures
ending_status (Client fault) = status.LinkFault fault
ending_status (BadMap part fault) = status.BadMap part fault
ending_status JournalFull = status.Limit Events MAX_EVENTS
ending_status NoMemory = status.NoMemory

-- the text of the journal, unless only the summary is wanted
abbrev pub journal_text : Bool → List Event → List ℕ
journal_text true h = []
journal_text false h = text_of h

-- the last lines of a run that ended so: the summary where all is done, else the fault line
abbrev pub last_lines : Setup → List (Option (List Record)) → List Event → Ending → List ℕ
last_lines setup logs h Done = summary_of setup logs h
last_lines setup logs h e = fault_line (ending_status e)

-- the output of a run that ended so; nothing is printed where it ran out of memory
abbrev pub run_text : Bool → Setup → List (Option (List Record)) → List Event → Ending → List ℕ
run_text summary setup logs h NoMemory = []
run_text summary setup logs h e = journal_text summary h ++ last_lines setup logs h e
