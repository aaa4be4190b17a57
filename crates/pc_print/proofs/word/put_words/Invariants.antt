-- The words so far are appended.
use Rattle.std.proofs.Common.{◌≡◌, ◌++◌, ◌∷◌, take}
use Rattle.std.specs.Prelude.{map}
use Rattle.pc_print.specs.Line.{spaced}
use Rattle.pc_print.specs.Word.{word_text}
use Rattle.pc_print.proofs.word.put_words.Given as goal

abbrev pub invariant-loop-word : goal.invariant-loop-word
invariant-loop-word l = l.out.items ≡ l.fn.out.items ++ spaced (l.fn.first ∷ map word_text (take l.word-index l.others))
