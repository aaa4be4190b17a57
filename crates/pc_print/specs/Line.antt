-- The text of a history: one line for each event.
use Rattle.std.specs.Prelude.{ℕ, ◌≡◌, ◌+◌, ◌<◌, ◌^◌, ◌++◌, ◌⊎◌, ⊤, List, [], ◌∷◌, length, codes, IsUtf8}
use Rattle.std.specs.Fmt.{decimal}
use Rattle.std.specs.List.{flat_map, AllByRecursion}
use Rattle.pc_lines.specs.Escape.{IsBytes, escaped_of}
use Rattle.pc_model.specs.declared.event.Event.{Event}
use Rattle.pc_model.specs.declared.event.Event.TheVariants.{Assign, Poll, Dispatch, Success, Failure, Stale, Commit, CommitFailed, Revoke, Lost, Crash, Tick, Drain, Done, Closed}

-- bytes after an equals sign, escaped
abbrev pub marked : List ℕ → List ℕ
marked bytes = 61 ∷ escaped_of bytes

-- a name, and the number that it names
abbrev pub named : List ℕ → ℕ → List (List ℕ)
named name n = name ∷ decimal n ∷ []

-- the words of a commit after the first
abbrev pub commit_words : ℕ → ℕ → List ℕ → ℕ → List (List ℕ)
commit_words part position map size =
    (decimal part ∷ named (codes "at") position)
    ++ (codes "map" ∷ marked map ∷ named (codes "size") size)

-- the words of an event
abbrev pub event_words : Event → List (List ℕ)
event_words (Assign part epoch position map) =
    (codes "assign" ∷ decimal part ∷ named (codes "epoch") epoch)
    ++ named (codes "at") position ++ (codes "map" ∷ marked map ∷ [])
event_words (Poll part count last) =
    (codes "poll" ∷ decimal part ∷ named (codes "count") count) ++ named (codes "last") last
event_words (Dispatch ticket worker part offset epoch attempt) =
    (codes "dispatch" ∷ decimal ticket ∷ named (codes "worker") worker)
    ++ named (codes "part") part ++ named (codes "offset") offset
    ++ named (codes "epoch") epoch ++ named (codes "attempt") attempt
event_words (Success ticket answer) = codes "success" ∷ decimal ticket ∷ marked answer ∷ []
event_words (Failure ticket code ready_at) =
    (codes "failure" ∷ decimal ticket ∷ named (codes "code") code) ++ named (codes "ready") ready_at
event_words (Stale ticket) = codes "stale" ∷ decimal ticket ∷ []
event_words (Commit part position map size) = codes "commit" ∷ commit_words part position map size
event_words (CommitFailed part position map size) =
    codes "commit-failed" ∷ commit_words part position map size
event_words (Revoke part epoch) = codes "revoke" ∷ decimal part ∷ named (codes "epoch") epoch
event_words (Lost part epoch) = codes "lost" ∷ decimal part ∷ named (codes "epoch") epoch
event_words Crash = codes "crash" ∷ []
event_words (Tick now) = codes "tick" ∷ decimal now ∷ []
event_words Drain = codes "drain" ∷ []
event_words Done = codes "done" ∷ []
event_words Closed = codes "closed" ∷ []

-- words with one space between them
abbrev pub spaced : List (List ℕ) → List ℕ
spaced [] = []
spaced (word ∷ words) = word ++ flat_map (λ w. 32 ∷ w) words

-- the line of an event, without its line feed
abbrev pub bare_line_of : Event → List ℕ
bare_line_of event = spaced (event_words event)

-- the line of an event, with its line feed
unfoldable pub line_of : Event → List ℕ
line_of event = bare_line_of event ++ 10 ∷ []

-- the text of a history, which has the newest event first
abbrev pub text_of : List Event → List ℕ
text_of [] = []
text_of (event ∷ before) = text_of before ++ line_of event

-- the numbers and texts that an event can hold
abbrev pub IsEvent : Event → Type 0
IsEvent (Assign part epoch position map) =
    (part < 2 ^ 32) × (epoch < 2 ^ 64) × (position < 2 ^ 64) × IsUtf8 map
IsEvent (Poll part count last) = (part < 2 ^ 32) × (count < 2 ^ 32) × (last < 2 ^ 64)
IsEvent (Dispatch ticket worker part offset epoch attempt) =
    (ticket < 2 ^ 64) × (worker < 2 ^ 32) × (part < 2 ^ 32)
    × (offset < 2 ^ 64) × (epoch < 2 ^ 64) × (attempt < 2 ^ 32)
IsEvent (Success ticket answer) = (ticket < 2 ^ 64) × IsBytes answer
IsEvent (Failure ticket code ready_at) = (ticket < 2 ^ 64) × (code < 2 ^ 32) × (ready_at < 2 ^ 64)
IsEvent (Stale ticket) = ticket < 2 ^ 64
IsEvent (Commit part position map size) =
    (part < 2 ^ 32) × (position < 2 ^ 64) × IsUtf8 map × (size < 2 ^ 32)
IsEvent (CommitFailed part position map size) =
    (part < 2 ^ 32) × (position < 2 ^ 64) × IsUtf8 map × (size < 2 ^ 32)
IsEvent (Revoke part epoch) = (part < 2 ^ 32) × (epoch < 2 ^ 64)
IsEvent (Lost part epoch) = (part < 2 ^ 32) × (epoch < 2 ^ 64)
IsEvent Crash = ⊤
IsEvent (Tick now) = now < 2 ^ 64
IsEvent Drain = ⊤
IsEvent Done = ⊤
IsEvent Closed = ⊤

abbrev pub AreEvents : List Event → Type 0
AreEvents events = AllByRecursion IsEvent events

-- the text itself, or with a line feed after its last line
abbrev pub IsEnded : List ℕ → List ℕ → Type 0
IsEnded text ended = (ended ≡ text) ⊎ (ended ≡ text ++ 10 ∷ [])

-- a line, without its line feed, of some event
abbrev pub IsEventLine : List ℕ → Type 0
IsEventLine line = (event : Event) × IsEvent event × (bare_line_of event ≡ line)

-- the line of this number, counted from 1, is the first that is no event's
pub record IsFirstBad (lines : List (List ℕ)) (n : ℕ) : Type 0 where
  pub front : List (List ℕ)
  pub line : List ℕ
  pub rest : List (List ℕ)
  pub parts : lines ≡ front ++ line ∷ rest
  pub number : n ≡ length front + 1
  pub good : AllByRecursion IsEventLine front
  pub bad : ¬ (IsEventLine line)
