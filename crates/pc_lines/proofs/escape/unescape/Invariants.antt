-- The bytes so far and those of the rest are those of the word.
use Rattle.std.proofs.Common.{◌≡◌, ◌++◌, List, length}
use Rattle.std.specs.Option.{option_map}
use Rattle.pc_lines.specs.Escape.{unescaped_of}
use Rattle.pc_lines.proofs.escape.unescape.Given as goal

-- the bytes so far, and then those of the rest
abbrev pub invariant-loop-rest : goal.invariant-loop-rest
invariant-loop-rest l = option_map (λ (more : List _). l.bytes.items ++ more) (unescaped_of l.rest) ≡ unescaped_of l.word

abbrev pub decreases-loop-rest : goal.decreases-loop-rest
decreases-loop-rest l = length l.rest
