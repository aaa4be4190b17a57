-- The text of a word of a line.
use Rattle.std.specs.Prelude.{ℕ, List, [], ◌∷◌, ◌++◌}
use Rattle.std.specs.Fmt.{decimal, signed_decimal}
use Rattle.pc_print.specs.Line.{marked}
use Rattle.pc_print.specs.declared.word.Word.{Word}
use Rattle.pc_print.specs.declared.word.Word.TheVariants.{Name, Number, Label, Signed, Marked}

abbrev pub word_text : Word → List ℕ
word_text (Name name) = name.now
word_text (Number n) = decimal n
word_text (Label n) = decimal n ++ 58 ∷ []
word_text (Signed n) = signed_decimal n
word_text (Marked bytes) = marked bytes.now
