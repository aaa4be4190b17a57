-- The arguments after the first word of a script's line, with the first fault.
use Rattle.std.specs.Prelude.{ℕ, Bool, true, false, ◌≡◌, ◌&&◌, ◌-◌, ◌||◌, ◌==◌, nat_le, List, [], ◌∷◌, Option, Some, None, Result, Ok, Err, if◌then◌else◌}
use Rattle.std.specs.Result.{MatchResult}
use Rattle.pc_model.specs.declared.limits.TheConstants.{MAX_PARTS}
use Rattle.pc_lines.specs.Decimal.{number_of}
use Rattle.pc_lines.specs.Pieces.{words_of}
use Rattle.pc_script.specs.declared.fault.ScriptKind.{ScriptKind}
use Rattle.pc_script.specs.declared.fault.ScriptKind.TheVariants.{WordCount, NotDecimal, OutOfRange}
use Rattle.pc_script.specs.declared.fault.ScriptReadFault.{ScriptReadFault}
use Rattle.pc_script.specs.declared.fault.ScriptReadFault.TheVariants.{Bad, TooManyLines, NoMemory}

infixl 10 ◌>>=◌
abbrev pub ◌>>=◌ : {A B : Type 0}
    → Result A ScriptKind → (A → Result B ScriptKind) → Result B ScriptKind
(Ok x) >>= f = f x
(Err kind) >>= f = Err kind

-- what a function returned, seen by view, is this
abbrev pub Gives : {X Y E : Type 0} → (X → Y) → Result X E → Result Y E → Type 0
Gives view result read = MatchResult result (λ x. read ≡ Ok (view x)) (λ e. read ≡ Err e)

-- a number of a word, from least to most
abbrev pub in_range : ℕ → ℕ → Option ℕ → Result ℕ ScriptKind
in_range least most None = Err NotDecimal
in_range least most (Some n) = if nat_le least n && nat_le n most then Ok n else Err OutOfRange

unfoldable pub argument_of : ℕ → ℕ → List ℕ → Result ℕ ScriptKind
argument_of least most word = in_range least most (number_of word)

abbrev pub part_of : List ℕ → Result ℕ ScriptKind
part_of word = argument_of 0 (MAX_PARTS - 1) word

-- ---- how many arguments there are

abbrev pub no_word_of : List (List ℕ) → Result (Unit {0}) ScriptKind
no_word_of [] = Ok tt
no_word_of (word ∷ words) = Err WordCount

abbrev pub one_word_of : List (List ℕ) → Result (List ℕ) ScriptKind
one_word_of (word ∷ []) = Ok word
one_word_of [] = Err WordCount
one_word_of (word ∷ other ∷ words) = Err WordCount

abbrev pub two_words_of : List (List ℕ) → Result (List ℕ × List ℕ) ScriptKind
two_words_of (first ∷ second ∷ []) = Ok (first, second)
two_words_of [] = Err WordCount
two_words_of (first ∷ []) = Err WordCount
two_words_of (first ∷ second ∷ third ∷ words) = Err WordCount

-- ---- lines that say nothing

-- a comment begins with a number sign, a blank line has no words
abbrev pub is_comment : List ℕ → Bool
is_comment [] = false
is_comment (b ∷ line) = b == 35

abbrev pub has_no_words : List (List ℕ) → Bool
has_no_words [] = true
has_no_words (word ∷ words) = false

abbrev pub is_skipped : List ℕ → Bool
is_skipped line = is_comment line || has_no_words (words_of line)

-- ---- what a reader of a whole script answers

-- it is this, unless it is out of memory
abbrev pub Reads : {X Y : Type 0}
    → (X → Y) → Result X ScriptReadFault → Result Y ScriptReadFault → Type 0
Reads view (Ok x) read = read ≡ Ok (view x)
Reads view (Err NoMemory) read = Unit {0}
Reads view (Err TooManyLines) read = read ≡ Err TooManyLines
Reads view (Err (Bad fault)) read = read ≡ Err (Bad fault)
