-- How a play ends, and the output of each ending.
use Rattle.std.specs.Prelude.{ℕ, List, [], ◌++◌, Result, Ok, Err}
use Rattle.std.specs.List.{flat_map}
use Rattle.pc_model.specs.declared.event.Event.{Event}
use Rattle.pc_print.specs.Line.{text_of}
use Rattle.pc_script.specs.declared.play.PlayLine.{PlayLine}
use Rattle.pc_inputs.specs.declared.status.Status.{Status}
use Rattle.pc_inputs.specs.declared.status.Status.TheVariants as status
use Rattle.pc_inputs.specs.Status.{fault_line}
use Rattle.pc_play.specs.declared.remark.Remark.{Remark}
use Rattle.pc_play.specs.Play.{Play}
use Rattle.parcon.specs.Remark.{remark_line}

-- the lines that are played: none where something keeps the play from beginning
abbrev pub lines_in : Result (List PlayLine) Status → List PlayLine
lines_in (Ok lines) = lines
lines_in (Err s) = []

-- the status of a play to which neither its sink nor memory was wanting
abbrev pub wanted_status : Result (List PlayLine) Status → Status
wanted_status (Ok lines) = status.Whole
wanted_status (Err s) = s

-- the text of a history and of remarks
abbrev pub text_with : List Event → List Remark → List ℕ
text_with h remarks = text_of h ++ flat_map remark_line remarks

-- the output of a play: its history and its remarks
abbrev pub play_text : Play → List ℕ
play_text play = text_with play.history play.remarks

-- the output of a play that ends with a status: its text, and the fault line as the last one
abbrev pub output_of : Status → Play → List ℕ
output_of s play = play_text play ++ fault_line s
