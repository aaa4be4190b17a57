-- The line of a remark.
use Rattle.std.specs.Prelude.{ℕ, List, [], ◌∷◌, ◌++◌, codes}
use Rattle.std.specs.Fmt.{decimal}
use Rattle.pc_print.specs.Line.{named, spaced}
use Rattle.pc_print.specs.MapFault.{map_words}
use Rattle.pc_engine.specs.declared.fault.EngineFault.{EngineFault}
use Rattle.pc_engine.specs.declared.fault.EngineFault.TheVariants as engine
use Rattle.pc_inputs.specs.Status.{client_words}
use Rattle.pc_play.specs.declared.remark.Notice.{Notice}
use Rattle.pc_play.specs.declared.remark.Notice.TheVariants.{Refused, NoJob, AtEnd, OldTime, Stranger}
use Rattle.pc_play.specs.declared.remark.Remark.{Remark}

-- the words of a refusal
abbrev pub refusal_words : EngineFault → List (List ℕ)
refusal_words engine.Closed = codes "closed" ∷ []
refusal_words engine.UnknownPart = codes "unknown-part" ∷ []
refusal_words engine.AlreadyHeld = codes "already-held" ∷ []
refusal_words engine.NotHeld = codes "not-held" ∷ []
refusal_words engine.Draining = codes "draining" ∷ []
refusal_words (engine.Pressed high) = named (codes "pressed") high
refusal_words engine.JournalFull = codes "journal-full" ∷ []
refusal_words (engine.NotDone part offset) =
    codes "not-done" ∷ decimal part ∷ decimal offset ∷ []
refusal_words (engine.Uncommitted part stored position) =
    codes "uncommitted" ∷ decimal part ∷ decimal stored ∷ decimal position ∷ []
refusal_words (engine.Client fault) = client_words fault
refusal_words (engine.BadMap fault) = codes "bad-map" ∷ map_words fault
refusal_words engine.NoMemory = codes "no-memory" ∷ []

-- the words after a line's number, as a line with its line feed
abbrev pub words_at : ℕ → List (List ℕ) → List ℕ
words_at n words = spaced (codes "line" ∷ (decimal n ++ 58 ∷ []) ∷ words) ++ 10 ∷ []

-- the words of what is remarked
abbrev pub notice_words : Notice → List (List ℕ)
notice_words (Refused fault) = refusal_words fault
notice_words NoJob = codes "none" ∷ []
notice_words AtEnd = codes "at-end" ∷ []
notice_words OldTime = codes "old-time" ∷ []
notice_words Stranger = codes "stranger" ∷ []

-- the line of a remark
unfoldable pub remark_line : Remark → List ℕ
remark_line remark = words_at remark.line (notice_words remark.notice)
