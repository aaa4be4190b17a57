-- The events so far, and the lines that are left.
use Rattle.std.proofs.Common.{◌≡◌, ◌+◌, ◌≤◌, [], length}
use Rattle.pc_lines.specs.Pieces.{lines_of}
use Rattle.pc_print.specs.Reading.{events_over}
use Rattle.pc_print.proofs.history.read_journal.Given as goal

-- the events so far, and then those of the lines that are left
abbrev pub invariant-loop-line : goal.invariant-loop-line
invariant-loop-line l = record {
  counted : l.number + length l.line-iterator ≤ length l.bytes;
  whole : events_over l.journal.events (l.number + 1) l.line-iterator ≡ events_over [] 1 (lines_of l.bytes);
}
