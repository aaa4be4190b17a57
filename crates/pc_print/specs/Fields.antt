-- The words of a line that are left, with exactly one space between them.
use Rattle.std.specs.Prelude.{ℕ, List, [], Option, Some, None}
use Rattle.std.specs.Borrow.{Bor}
use Rattle.std.specs.List.{slice_split}
use Rattle.pc_lines.specs.Pieces.{is_space}

abbrev pub fields_of : Option (Bor (List ℕ)) → List (List ℕ)
fields_of None = []
fields_of (Some line) = slice_split is_space line.now
