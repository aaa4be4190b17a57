-- The word for each kind of a bad line.
use Rattle.std.specs.Prelude.{ℕ, List, codes}
use Rattle.pc_script.specs.declared.fault.ScriptKind.{ScriptKind}
use Rattle.pc_script.specs.declared.fault.ScriptKind.TheVariants.{UnknownWord, WordCount, NotDecimal, OutOfRange, UnknownPart, AlreadyHeld, NotHeld}

abbrev pub kind_text : ScriptKind → List ℕ
kind_text UnknownWord = codes "unknown-word"
kind_text WordCount = codes "word-count"
kind_text NotDecimal = codes "not-decimal"
kind_text OutOfRange = codes "out-of-range"
kind_text UnknownPart = codes "unknown-part"
kind_text AlreadyHeld = codes "already-held"
kind_text NotHeld = codes "not-held"
