-- A line's fault from a word's.
use Rattle.pc_lines.specs.declared.escape.UnescapeFault.{UnescapeFault}
use Rattle.pc_lines.specs.declared.escape.UnescapeFault.TheVariants as word
use Rattle.pc_print.specs.declared.line_fault.LineFault.{LineFault}
use Rattle.pc_print.specs.declared.line_fault.LineFault.TheVariants.{Bad, NoMemory}

abbrev pub of_unescape : UnescapeFault → LineFault
of_unescape word.Bad = Bad
of_unescape word.NoMemory = NoMemory
