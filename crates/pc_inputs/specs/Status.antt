-- How a call of the program ends: the number of its status, and its fault line.
use Rattle.std.specs.Prelude.{ℕ, List, [], ◌∷◌, ◌++◌, codes}
use Rattle.std.specs.Fmt.{decimal, signed_decimal}
use Rattle.pc_print.specs.Line.{marked, spaced}
use Rattle.pc_print.specs.MapFault.{map_words}
use Rattle.pc_script.specs.Kinds.{kind_text}
use Rattle.pc_offset_client.specs.declared.fault.ClientFault.{ClientFault}
use Rattle.pc_offset_client.specs.declared.fault.ClientFault.TheVariants as client
use Rattle.pc_inputs.specs.declared.status.Status.{Status}
use Rattle.pc_inputs.specs.declared.status.Status.TheVariants as status
use Rattle.pc_inputs.specs.declared.status.LimitKind.{LimitKind}
use Rattle.pc_inputs.specs.declared.status.LimitKind.TheVariants.{Events, FileBytes, LogBytes, Records, ScriptLines}
use Rattle.pc_inputs.specs.ConfigFault.{config_words}
use Rattle.pc_inputs.specs.LogFault.{log_line, fault_words}

-- the number with which the program ends
abbrev pub status_number : Status → ℕ
status_number status.Whole = 0
status_number status.Usage = 1
status_number (status.ReadFault name) = 2
status_number (status.BadConfig fault) = 3
status_number (status.BadLog name place fault) = 4
status_number (status.BadScript line kind) = 5
status_number (status.Undrained part offset failures) = 6
status_number status.SinkFault = 7
status_number (status.LinkFault fault) = 8
status_number (status.Limit which number) = 9
status_number (status.BadMap part fault) = 10
status_number status.NoMemory = 11

-- the status of what the link's client did not do
abbrev pub client_status : ClientFault → Status
client_status client.NoMemory = status.NoMemory
client_status fault = status.LinkFault fault

-- ---- fault lines

-- the words of what went wrong with the link's client
abbrev pub client_words : ClientFault → List (List ℕ)
client_words client.LinkFailed = codes "link-failed" ∷ []
client_words (client.Refused code) = codes "refused" ∷ signed_decimal code ∷ []
client_words (client.BadReply fault) = codes "bad-reply" ∷ []
client_words (client.OtherReply asked got) = codes "other-reply" ∷ []
client_words client.NoMemory = codes "no-memory" ∷ []

-- the word for what has a limit
abbrev pub limit_name : LimitKind → List ℕ
limit_name FileBytes = codes "file-bytes"
limit_name LogBytes = codes "log-bytes"
limit_name Records = codes "records"
limit_name ScriptLines = codes "script-lines"
limit_name Events = codes "events"

-- the line of a fault's words, with its line feed
abbrev pub line_of_words : List (List ℕ) → List ℕ
line_of_words words = spaced words ++ 10 ∷ []

-- the line of what is wrong with the input
abbrev pub fault_words_line : List (List ℕ) → List ℕ
fault_words_line words = line_of_words (codes "fault" ∷ words)

-- the fault line of a status, where it has one
unfoldable pub fault_line : Status → List ℕ
fault_line status.Whole = []
fault_line status.Usage = line_of_words (codes "fault" ∷ codes "usage" ∷ [])
fault_line (status.ReadFault name) =
    line_of_words (codes "fault" ∷ codes "read" ∷ marked name ∷ [])
fault_line (status.BadConfig fault) = fault_words_line (codes "config" ∷ config_words fault)
fault_line (status.BadLog name place fault) = log_line name place (fault_words fault)
fault_line (status.BadScript line kind) =
    line_of_words (codes "fault" ∷ codes "script" ∷ decimal line ∷ kind_text kind ∷ [])
fault_line (status.Undrained part offset failures) = fault_words_line
    (codes "undrained" ∷ decimal part ∷ decimal offset ∷ decimal failures ∷ [])
fault_line status.SinkFault = []
fault_line (status.LinkFault fault) = fault_words_line (codes "link" ∷ client_words fault)
fault_line (status.Limit which number) =
    line_of_words (codes "fault" ∷ codes "limit" ∷ limit_name which ∷ decimal number ∷ [])
fault_line (status.BadMap part fault) =
    fault_words_line (codes "map" ∷ decimal part ∷ map_words fault)
fault_line status.NoMemory = []
