-- The steps so far, with the flags that mirror them, and the lines that are left.
use Rattle.std.proofs.Common.{◌≡◌, ◌+◌, ◌≤◌, [], length}
use Rattle.pc_lines.specs.Pieces.{lines_of}
use Rattle.pc_script.specs.Steps.{steps_behind, Mirrors}
use Rattle.pc_script.proofs.steps.read_lines.Given as goal

-- the steps so far, and then those of the lines that are left
abbrev pub invariant-loop-line : goal.invariant-loop-line
invariant-loop-line l = record {
  counted : l.number + length l.line-iterator ≤ 1_000_000;
  parts : l.held.parts ≡ l.parts;
  held : Mirrors l.held.flags l.steps.items;
  whole : steps_behind l.parts l.steps.items (l.number + 1) l.line-iterator ≡ steps_behind l.parts [] 1 (lines_of l.bytes);
}
