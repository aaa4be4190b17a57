-- The lines so far, and those that are left.
use Rattle.std.proofs.Common.{◌≡◌, ◌+◌, ◌≤◌, [], length}
use Rattle.pc_lines.specs.Pieces.{lines_of}
use Rattle.pc_script.specs.PlayScript.{play_lines}
use Rattle.pc_script.proofs.play_script.read_lines.Given as goal

-- the lines so far, and then those that are left
abbrev pub invariant-loop-line : goal.invariant-loop-line
invariant-loop-line l = record {
  counted : l.number + length l.line-iterator ≤ 1_000_000;
  whole : play_lines l.script.items (l.number + 1) l.line-iterator ≡ play_lines [] 1 (lines_of l.bytes);
}
