-- The event of a line and the history of a text, read from left to right.
use Rattle.std.specs.Prelude.{ℕ, ◌≡◌, ◌+◌, ◌-◌, ◌^◌, nat_le, ◌==◌, List, [], ◌∷◌, Option, Some, None, Result, Ok, Err, if◌then◌else◌, codes, option_and_then}
use Rattle.std.specs.List.{slice_split}
use Rattle.std.specs.Str.{bytes_eq, is_utf8}
use Rattle.pc_lines.specs.Decimal.{number_of}
use Rattle.pc_lines.specs.Escape.{unescaped_of}
use Rattle.pc_lines.specs.Pieces.{is_space, lines_of}
use Rattle.pc_model.specs.declared.event.Event.{Event}
use Rattle.pc_model.specs.declared.event.Event.TheVariants as event
use Rattle.pc_print.specs.declared.event_word.EventWord.{EventWord}
use Rattle.pc_print.specs.declared.event_word.EventWord.TheVariants as word
use Rattle.pc_print.specs.declared.line_fault.LineFault.{LineFault}
use Rattle.pc_print.specs.declared.line_fault.LineFault.TheVariants.{Bad, NoMemory}
use Rattle.pc_print.specs.declared.fault.JournalTextFault.{JournalTextFault}
use Rattle.pc_print.specs.declared.fault.JournalTextFault.TheVariants as text
use Rattle.pc_model.specs.declared.journal.Journal.{Journal}

infixl 10 ◌>>=◌
abbrev pub ◌>>=◌ : {A B : Type 0} → Option A → (A → Option B) → Option B
o >>= f = option_and_then f o

-- what a function returned, seen by view, is this, unless it is out of memory
abbrev pub Reads : {X Y : Type 0} → (X → Y) → Result X LineFault → Option Y → Type 0
Reads view (Ok x) read = read ≡ Some (view x)
Reads view (Err Bad) read = read ≡ None
Reads view (Err NoMemory) read = Unit {0}

abbrev pub Words : Type 0
Words = List (List ℕ)

-- ---- one or two words, and what is left

unfoldable pub number_at : ℕ → Words → Option (ℕ × Words)
number_at most [] = None
number_at most (word ∷ rest) = do
  n ← number_of word
  if nat_le n most then Some (n, rest) else None

unfoldable pub after_name : List ℕ → Words → Option Words
after_name name [] = None
after_name name (word ∷ rest) = if bytes_eq word name then Some rest else None

abbrev pub marked_bytes : List ℕ → Option (List ℕ)
marked_bytes [] = None
marked_bytes (b ∷ word) = if b == 61 then unescaped_of word else None

unfoldable pub bytes_at : Words → Option (List ℕ × Words)
bytes_at [] = None
bytes_at (word ∷ rest) = do
  bytes ← marked_bytes word
  Some (bytes, rest)

abbrev pub small_at : Words → Option (ℕ × Words)
small_at words = number_at (2 ^ 32 - 1) words

abbrev pub large_at : Words → Option (ℕ × Words)
large_at words = number_at (2 ^ 64 - 1) words

unfoldable pub named_at : List ℕ → ℕ → Words → Option (ℕ × Words)
named_at name most words = do
  rest ← after_name name words
  number_at most rest

abbrev pub named_small : List ℕ → Words → Option (ℕ × Words)
named_small name words = named_at name (2 ^ 32 - 1) words

abbrev pub named_large : List ℕ → Words → Option (ℕ × Words)
named_large name words = named_at name (2 ^ 64 - 1) words

-- bytes that are a text
abbrev pub if_text : List ℕ → Option (List ℕ)
if_text bytes = if is_utf8 bytes then Some bytes else None

unfoldable pub map_at : Words → Option (List ℕ × Words)
map_at words = do
  rest ← after_name (codes "map") words
  found ← bytes_at rest
  text ← if_text found.0
  Some (text, found.1)

-- ---- the words after the first

unfoldable pub assign_at : Words → Option (Event × Words)
assign_at words = do
  part ← small_at words
  epoch ← named_large (codes "epoch") part.1
  position ← named_large (codes "at") epoch.1
  map ← map_at position.1
  Some (event.Assign part.0 epoch.0 position.0 map.0, map.1)

unfoldable pub poll_at : Words → Option (Event × Words)
poll_at words = do
  part ← small_at words
  count ← named_small (codes "count") part.1
  last ← named_large (codes "last") count.1
  Some (event.Poll part.0 count.0 last.0, last.1)

unfoldable pub dispatch_at : Words → Option (Event × Words)
dispatch_at words = do
  ticket ← large_at words
  worker ← named_small (codes "worker") ticket.1
  part ← named_small (codes "part") worker.1
  offset ← named_large (codes "offset") part.1
  epoch ← named_large (codes "epoch") offset.1
  attempt ← named_small (codes "attempt") epoch.1
  Some (event.Dispatch ticket.0 worker.0 part.0 offset.0 epoch.0 attempt.0, attempt.1)

unfoldable pub success_at : Words → Option (Event × Words)
success_at words = do
  ticket ← large_at words
  answer ← bytes_at ticket.1
  Some (event.Success ticket.0 answer.0, answer.1)

unfoldable pub failure_at : Words → Option (Event × Words)
failure_at words = do
  ticket ← large_at words
  code ← named_small (codes "code") ticket.1
  ready ← named_large (codes "ready") code.1
  Some (event.Failure ticket.0 code.0 ready.0, ready.1)

unfoldable pub stale_at : Words → Option (Event × Words)
stale_at words = do
  ticket ← large_at words
  Some (event.Stale ticket.0, ticket.1)

unfoldable pub tick_at : Words → Option (Event × Words)
tick_at words = do
  now ← large_at words
  Some (event.Tick now.0, now.1)

-- part, position, map and size
unfoldable pub commit_at : Words → Option ((ℕ × ℕ × List ℕ × ℕ) × Words)
commit_at words = do
  part ← small_at words
  position ← named_large (codes "at") part.1
  map ← map_at position.1
  size ← named_small (codes "size") map.1
  Some ((part.0, position.0, map.0, size.0), size.1)

-- part and epoch
unfoldable pub end_at : Words → Option ((ℕ × ℕ) × Words)
end_at words = do
  part ← small_at words
  epoch ← named_large (codes "epoch") part.1
  Some ((part.0, epoch.0), epoch.1)

abbrev pub stored : (ℕ → ℕ → List ℕ → ℕ → Event) → Words → Option (Event × Words)
stored make words = do
  found ← commit_at words
  Some (make found.0.0 found.0.1 found.0.2 found.0.3, found.1)

abbrev pub ended : (ℕ → ℕ → Event) → Words → Option (Event × Words)
ended make words = do
  found ← end_at words
  Some (make found.0.0 found.0.1, found.1)

-- ---- a whole line

-- which word a line begins with, if any
unfoldable pub event_word_of : List ℕ → Option EventWord
event_word_of text =
    if bytes_eq text (codes "assign") then Some word.Assign
    else (if bytes_eq text (codes "poll") then Some word.Poll
    else (if bytes_eq text (codes "dispatch") then Some word.Dispatch
    else (if bytes_eq text (codes "success") then Some word.Success
    else (if bytes_eq text (codes "failure") then Some word.Failure
    else (if bytes_eq text (codes "stale") then Some word.Stale
    else (if bytes_eq text (codes "commit") then Some word.Commit
    else (if bytes_eq text (codes "commit-failed") then Some word.CommitFailed
    else (if bytes_eq text (codes "revoke") then Some word.Revoke
    else (if bytes_eq text (codes "lost") then Some word.Lost
    else (if bytes_eq text (codes "crash") then Some word.Crash
    else (if bytes_eq text (codes "tick") then Some word.Tick
    else (if bytes_eq text (codes "drain") then Some word.Drain
    else (if bytes_eq text (codes "done") then Some word.Done
    else (if bytes_eq text (codes "closed") then Some word.Closed
    else None))))))))))))))

-- the event of a first word and the words after it, with what is left
unfoldable pub behind_word : EventWord → Words → Option (Event × Words)
behind_word word.Assign words = assign_at words
behind_word word.Poll words = poll_at words
behind_word word.Dispatch words = dispatch_at words
behind_word word.Success words = success_at words
behind_word word.Failure words = failure_at words
behind_word word.Stale words = stale_at words
behind_word word.Commit words = stored event.Commit words
behind_word word.CommitFailed words = stored event.CommitFailed words
behind_word word.Revoke words = ended event.Revoke words
behind_word word.Lost words = ended event.Lost words
behind_word word.Crash words = Some (event.Crash, words)
behind_word word.Tick words = tick_at words
behind_word word.Drain words = Some (event.Drain, words)
behind_word word.Done words = Some (event.Done, words)
behind_word word.Closed words = Some (event.Closed, words)

abbrev pub at_end : Event × Words → Option Event
at_end (event, []) = Some event
at_end (event, word ∷ words) = None

unfoldable pub event_of_words : Words → Option Event
event_of_words [] = None
event_of_words (text ∷ words) = do
  first ← event_word_of text
  found ← behind_word first words
  at_end found

-- the event of a line
abbrev pub event_of : List ℕ → Option Event
event_of line = event_of_words (slice_split is_space line)

-- ---- all lines

abbrev pub then_events : ℕ → Option Event → (Event → Result (List Event) ℕ) → Result (List Event) ℕ
then_events n None others = Err n
then_events n (Some event) others = others event

-- the events of these lines over those before, or the number of the first line that is no event's;
-- the first of these lines has the number n
unfoldable pub events_over : List Event → ℕ → List (List ℕ) → Result (List Event) ℕ
events_over before n [] = Ok before
events_over before n (line ∷ lines) =
    then_events n (event_of line) (λ event. events_over (event ∷ before) (n + 1) lines)

-- what the reader of a line of this number answered is this, unless it is out of memory
abbrev pub ReadsEvent : ℕ → Result Event JournalTextFault → Option Event → Type 0
ReadsEvent n (Ok event) read = read ≡ Some event
ReadsEvent n (Err (text.Bad line)) read = (line ≡ n) × (read ≡ None)
ReadsEvent n (Err text.NoMemory) read = Unit {0}

-- what the reader of a text answered is this, unless it is out of memory
abbrev pub ReadsHistory : Result Journal JournalTextFault → Result (List Event) ℕ → Type 0
ReadsHistory (Ok journal) read = read ≡ Ok journal.events
ReadsHistory (Err (text.Bad line)) read = read ≡ Err line
ReadsHistory (Err text.NoMemory) read = Unit {0}

-- the history of a text, the newest event first
unfoldable pub history_of : List ℕ → Result (List Event) ℕ
history_of text = events_over [] 1 (lines_of text)
