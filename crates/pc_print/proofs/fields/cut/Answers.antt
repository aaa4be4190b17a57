-- The first word ends at the first space.
use Rattle.std.proofs.Common.{◌+◌, sym}
use Rattle.std.proofs.lemmas.List.{take_rest}
use Rattle.pc_print.proofs.FieldLemmas.{slice_split-found, slice_split-whole}
use Rattle.pc_print.proofs.fields.cut.Goals as goal

pub returns-in-Some : goal.returns-in-Some
returns-in-Some c = rw (take_rest c.args.line.now (c.in-Some.at + 1)) (slice_split-found c.args.line.now c.in-Some.at (sym c.in-Some.ensures))

pub returns-in-None : goal.returns-in-None
returns-in-None c = slice_split-whole c.args.line.now (sym c.in-None.ensures)
