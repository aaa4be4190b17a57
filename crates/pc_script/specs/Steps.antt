-- The steps of a rebalance script.
use Rattle.std.specs.Prelude.{ℕ, Bool, true, false, ◌≡◌, ◌+◌, ◌<◌, ◌≤◌, ⊤, nat_lt, ◌==◌, List, [], ◌∷◌, ◌++◌, length, fold, Option, Some, None, Result, Ok, Err, if◌then◌else◌, codes, slice_index_or}
use Rattle.std.specs.List.{AllByRecursion}
use Rattle.std.specs.Str.{bytes_eq}
use Rattle.pc_model.specs.declared.limits.TheConstants.{MAX_EVENTS, MAX_PARTS, MAX_SCRIPT_LINES}
use Rattle.pc_lines.specs.Pieces.{lines_of, words_of}
use Rattle.pc_script.specs.declared.fault.ScriptFault.{ScriptFault}
use Rattle.pc_script.specs.declared.fault.ScriptKind.{ScriptKind}
use Rattle.pc_script.specs.declared.fault.ScriptKind.TheVariants.{UnknownWord, WordCount, UnknownPart, AlreadyHeld, NotHeld}
use Rattle.pc_script.specs.declared.fault.ScriptReadFault.{ScriptReadFault}
use Rattle.pc_script.specs.declared.fault.ScriptReadFault.TheVariants as read
use Rattle.pc_model.specs.declared.step.Act.{Act}
use Rattle.pc_model.specs.declared.step.Act.TheVariants.{Assign, Revoke, Lose, Crash}
use Rattle.pc_model.specs.declared.step.Step.{Step}
use Rattle.pc_script.specs.declared.step_word.StepWord.{StepWord}
use Rattle.pc_script.specs.declared.step_word.StepWord.TheVariants as word
use Rattle.pc_script.specs.Arguments.{◌>>=◌, argument_of, part_of, no_word_of, one_word_of, is_skipped}

-- which word it is, if any
unfoldable pub step_word_of : List ℕ → Option StepWord
step_word_of text =
    if bytes_eq text (codes "assign") then Some word.Assign
    else (if bytes_eq text (codes "revoke") then Some word.Revoke
    else (if bytes_eq text (codes "lose") then Some word.Lose
    else (if bytes_eq text (codes "crash") then Some word.Crash
    else None)))

abbrev pub count_of : List ℕ → Result ℕ ScriptKind
count_of text = argument_of 0 MAX_EVENTS text

-- the count of a step, and its one part
abbrev pub count_and_part_of : List ℕ → List (List ℕ) → Result (ℕ × ℕ) ScriptKind
count_and_part_of count arguments = do
  text ← one_word_of arguments
  n ← count_of count
  part ← part_of text
  Ok (n, part)

abbrev pub part_step : (ℕ → Act) → List ℕ → List (List ℕ) → Result Step ScriptKind
part_step act count arguments = do
  found ← count_and_part_of count arguments
  Ok (record { count = found.0; act = act found.1 })

abbrev pub crash_step : List ℕ → List (List ℕ) → Result Step ScriptKind
crash_step count arguments = do
  none ← no_word_of arguments
  n ← count_of count
  Ok (record { count = n; act = Crash })

-- what a word asks at a count, with its arguments
unfoldable pub step_asked_of : List ℕ → Option StepWord → List (List ℕ) → Result Step ScriptKind
step_asked_of count None arguments = Err UnknownWord
step_asked_of count (Some word.Assign) arguments = part_step Assign count arguments
step_asked_of count (Some word.Revoke) arguments = part_step Revoke count arguments
step_asked_of count (Some word.Lose) arguments = part_step Lose count arguments
step_asked_of count (Some word.Crash) arguments = crash_step count arguments

-- what stands after `at`
abbrev pub step_behind_at : List (List ℕ) → Result Step ScriptKind
step_behind_at [] = Err WordCount
step_behind_at (count ∷ []) = Err WordCount
step_behind_at (count ∷ text ∷ arguments) = step_asked_of count (step_word_of text) arguments

-- the step of a line's words
abbrev pub written_step_of : List (List ℕ) → Result Step ScriptKind
written_step_of [] = Err UnknownWord
written_step_of (text ∷ arguments) =
    if bytes_eq text (codes "at") then step_behind_at arguments else Err UnknownWord

-- ---- the parts that are held

-- whether a part is held after an act, which a crash does not change
abbrev pub held_after : ℕ → Bool → Act → Bool
held_after p held (Assign part) = if part == p then true else held
held_after p held (Revoke part) = if part == p then false else held
held_after p held (Lose part) = if part == p then false else held
held_after p held Crash = held

-- whether a part is held after these steps
abbrev pub is_held : List Step → ℕ → Bool
is_held steps p = fold (λ held step. held_after p held step.act) false steps

-- a part has to have a log, and to be held before an act, or not
abbrev pub if_known : ℕ → ℕ → Result (Unit {0}) ScriptKind → Result (Unit {0}) ScriptKind
if_known parts part allowed = if nat_lt part parts then allowed else Err UnknownPart

abbrev pub if_held : Bool → Result (Unit {0}) ScriptKind
if_held held = if held then Ok tt else Err NotHeld

abbrev pub if_free : Bool → Result (Unit {0}) ScriptKind
if_free held = if held then Err AlreadyHeld else Ok tt

abbrev pub allowed_of : ℕ → List Step → Act → Result (Unit {0}) ScriptKind
allowed_of parts before (Assign part) = if_known parts part (if_free (is_held before part))
allowed_of parts before (Revoke part) = if_known parts part (if_held (is_held before part))
allowed_of parts before (Lose part) = if_known parts part (if_held (is_held before part))
allowed_of parts before Crash = Ok tt

-- ---- all lines

abbrev pub StepsOf : Type 0
StepsOf = Result (List Step) ScriptFault

-- the step of a line after these steps
abbrev pub step_of : ℕ → List Step → List ℕ → Result Step ScriptKind
step_of parts before line = do
  step ← written_step_of (words_of line)
  allowed ← allowed_of parts before step.act
  Ok step

abbrev pub step_at : ℕ → Result Step ScriptKind → Result Step ScriptFault
step_at n (Ok step) = Ok step
step_at n (Err kind) = Err (record { line = n; kind = kind })

abbrev pub then_steps : Result Step ScriptFault → (Step → StepsOf) → StepsOf
then_steps (Ok step) others = others step
then_steps (Err fault) others = Err fault

-- the steps before, and then those of these lines, which are numbered from n on
unfoldable pub steps_behind : ℕ → List Step → ℕ → List (List ℕ) → StepsOf
steps_behind parts before n [] = Ok before
steps_behind parts before n (line ∷ lines) =
    if is_skipped line then steps_behind parts before (n + 1) lines
    else then_steps (step_at n (step_of parts before line)) (λ step.
    steps_behind parts (before ++ step ∷ []) (n + 1) lines)

abbrev pub or_bad_step : StepsOf → Result (List Step) ScriptReadFault
or_bad_step (Ok steps) = Ok steps
or_bad_step (Err fault) = Err (read.Bad fault)

-- the steps of a text over this many parts, or its first fault
unfoldable pub steps_of : List ℕ → ℕ → Result (List Step) ScriptReadFault
steps_of text parts =
    if nat_lt MAX_SCRIPT_LINES (length (lines_of text)) then Err read.TooManyLines
    else or_bad_step (steps_behind parts [] 1 (lines_of text))

-- ---- what every step of a script keeps to

abbrev pub IsAct : Act → Type 0
IsAct (Assign part) = part < MAX_PARTS
IsAct (Revoke part) = part < MAX_PARTS
IsAct (Lose part) = part < MAX_PARTS
IsAct Crash = ⊤

abbrev pub IsStep : Step → Type 0
IsStep step = (step.count ≤ MAX_EVENTS) × IsAct step.act

abbrev pub AreSteps : List Step → Type 0
AreSteps steps = AllByRecursion IsStep steps

-- after the steps before, each of these is of a part that has a log, and that is held, or not, as
-- its act wants
abbrev pub AreAllowed : ℕ → List Step → List Step → Type 0
AreAllowed parts before [] = ⊤
AreAllowed parts before (step ∷ steps) =
    (allowed_of parts before step.act ≡ Ok tt) × AreAllowed parts (before ++ step ∷ []) steps

-- the flags say which parts are held after these steps
abbrev pub Mirrors : List Bool → List Step → Type 0
Mirrors flags steps = (p : ℕ) → p < MAX_PARTS → slice_index_or flags p false ≡ is_held steps p
