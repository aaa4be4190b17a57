-- The play script of a text.
use Rattle.std.specs.Prelude.{ℕ, ◌+◌, ◌-◌, ◌<◌, ◌≤◌, ◌^◌, ⊤, List, [], ◌∷◌, ◌++◌, length, nat_lt, Option, Some, None, Result, Ok, Err, if◌then◌else◌, codes}
use Rattle.std.specs.List.{AllByRecursion}
use Rattle.std.specs.Str.{bytes_eq}
use Rattle.pc_model.specs.declared.limits.TheConstants.{MAX_EVENTS, MAX_PARTS, MAX_RECORDS, MAX_SCRIPT_LINES, MAX_WORKERS}
use Rattle.pc_lines.specs.Pieces.{lines_of, words_of}
use Rattle.pc_script.specs.declared.fault.ScriptFault.{ScriptFault}
use Rattle.pc_script.specs.declared.fault.ScriptKind.{ScriptKind}
use Rattle.pc_script.specs.declared.fault.ScriptKind.TheVariants.{UnknownWord}
use Rattle.pc_script.specs.declared.fault.ScriptReadFault.{ScriptReadFault}
use Rattle.pc_script.specs.declared.fault.ScriptReadFault.TheVariants as read
use Rattle.pc_script.specs.declared.play.PlayAct.{PlayAct}
use Rattle.pc_script.specs.declared.play.PlayAct.TheVariants as play
use Rattle.pc_script.specs.declared.play.PlayLine.{PlayLine}
use Rattle.pc_script.specs.declared.play_word.PlayWord.{PlayWord}
use Rattle.pc_script.specs.declared.play_word.PlayWord.TheVariants as word
use Rattle.pc_script.specs.Arguments.{◌>>=◌, argument_of, part_of, no_word_of, one_word_of, two_words_of, is_skipped}

-- which word it is, if any
unfoldable pub play_word_of : List ℕ → Option PlayWord
play_word_of text =
    if bytes_eq text (codes "assign") then Some word.Assign
    else (if bytes_eq text (codes "poll") then Some word.Poll
    else (if bytes_eq text (codes "take") then Some word.Take
    else (if bytes_eq text (codes "end") then Some word.End
    else (if bytes_eq text (codes "tick") then Some word.Tick
    else (if bytes_eq text (codes "commit") then Some word.Commit
    else (if bytes_eq text (codes "revoke") then Some word.Revoke
    else (if bytes_eq text (codes "lose") then Some word.Lose
    else (if bytes_eq text (codes "crash") then Some word.Crash
    else (if bytes_eq text (codes "drain") then Some word.Drain
    else (if bytes_eq text (codes "done") then Some word.Done
    else (if bytes_eq text (codes "close") then Some word.Close
    else None)))))))))))

-- one part alone
abbrev pub of_part : (ℕ → PlayAct) → List (List ℕ) → Result PlayAct ScriptKind
of_part act arguments = do
  text ← one_word_of arguments
  part ← part_of text
  Ok (act part)

-- one number alone
abbrev pub of_number : (ℕ → PlayAct) → ℕ → ℕ → List (List ℕ) → Result PlayAct ScriptKind
of_number act least most arguments = do
  text ← one_word_of arguments
  n ← argument_of least most text
  Ok (act n)

abbrev pub of_none : PlayAct → List (List ℕ) → Result PlayAct ScriptKind
of_none act arguments = do
  none ← no_word_of arguments
  Ok act

-- a part and a number
abbrev pub poll_of : List (List ℕ) → Result PlayAct ScriptKind
poll_of arguments = do
  texts ← two_words_of arguments
  part ← part_of texts.0
  max ← argument_of 1 MAX_RECORDS texts.1
  Ok (play.Poll part max)

-- what a word asks with its arguments
unfoldable pub asked_of : Option PlayWord → List (List ℕ) → Result PlayAct ScriptKind
asked_of None arguments = Err UnknownWord
asked_of (Some word.Assign) arguments = of_part play.Assign arguments
asked_of (Some word.Poll) arguments = poll_of arguments
asked_of (Some word.Take) arguments = of_number play.Take 0 (MAX_WORKERS - 1) arguments
asked_of (Some word.End) arguments = of_number play.End 1 MAX_EVENTS arguments
asked_of (Some word.Tick) arguments = of_number play.Tick 0 (2 ^ 63 - 1) arguments
asked_of (Some word.Commit) arguments = of_part play.Commit arguments
asked_of (Some word.Revoke) arguments = of_part play.Revoke arguments
asked_of (Some word.Lose) arguments = of_part play.Lose arguments
asked_of (Some word.Crash) arguments = of_none play.Crash arguments
asked_of (Some word.Drain) arguments = of_none play.Drain arguments
asked_of (Some word.Done) arguments = of_none play.Done arguments
asked_of (Some word.Close) arguments = of_none play.Close arguments

-- the act of a line's words
abbrev pub play_act_of : List (List ℕ) → Result PlayAct ScriptKind
play_act_of [] = Err UnknownWord
play_act_of (text ∷ arguments) = asked_of (play_word_of text) arguments

-- ---- all lines

abbrev pub ScriptOf : Type 0
ScriptOf = Result (List PlayLine) ScriptFault

-- a line of this number
abbrev pub numbered : ℕ → Result PlayAct ScriptKind → Result PlayLine ScriptFault
numbered n (Ok act) = Ok (record { line = n; act = act })
numbered n (Err kind) = Err (record { line = n; kind = kind })

abbrev pub play_line_of : ℕ → List ℕ → Result PlayLine ScriptFault
play_line_of n line = numbered n (play_act_of (words_of line))

abbrev pub then_lines : Result PlayLine ScriptFault → (PlayLine → ScriptOf) → ScriptOf
then_lines (Ok line) others = others line
then_lines (Err fault) others = Err fault

-- the lines before, and then these, which are numbered from n on
unfoldable pub play_lines : List PlayLine → ℕ → List (List ℕ) → ScriptOf
play_lines before n [] = Ok before
play_lines before n (line ∷ lines) =
    if is_skipped line then play_lines before (n + 1) lines
    else then_lines (play_line_of n line) (λ first. play_lines (before ++ first ∷ []) (n + 1) lines)

abbrev pub or_bad_line : ScriptOf → Result (List PlayLine) ScriptReadFault
or_bad_line (Ok lines) = Ok lines
or_bad_line (Err fault) = Err (read.Bad fault)

-- the play script of a text, or its first fault
unfoldable pub script_of : List ℕ → Result (List PlayLine) ScriptReadFault
script_of text =
    if nat_lt MAX_SCRIPT_LINES (length (lines_of text)) then Err read.TooManyLines
    else or_bad_line (play_lines [] 1 (lines_of text))

-- ---- what every act of a script keeps to

abbrev pub IsPlayable : PlayAct → Type 0
IsPlayable (play.Assign part) = part < MAX_PARTS
IsPlayable (play.Poll part max) = (part < MAX_PARTS) × (1 ≤ max) × (max ≤ MAX_RECORDS)
IsPlayable (play.Take worker) = worker < MAX_WORKERS
IsPlayable (play.End ticket) = (1 ≤ ticket) × (ticket ≤ MAX_EVENTS)
IsPlayable (play.Tick now) = now < 2 ^ 63
IsPlayable (play.Commit part) = part < MAX_PARTS
IsPlayable (play.Revoke part) = part < MAX_PARTS
IsPlayable (play.Lose part) = part < MAX_PARTS
IsPlayable play.Crash = ⊤
IsPlayable play.Drain = ⊤
IsPlayable play.Done = ⊤
IsPlayable play.Close = ⊤

abbrev pub ArePlayable : List PlayLine → Type 0
ArePlayable lines = AllByRecursion (λ line. IsPlayable line.act) lines
