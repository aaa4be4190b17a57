-- The summary of a run: of each part that is held at the end the records that it was to process,
-- with the function's answers, and the position after them.
use Rattle.std.specs.Prelude.{ℕ, ◌+◌, not, nat_le, List, [], ◌∷◌, ◌++◌, length, Option, None, codes, filter, unwrap_or}
use Rattle.std.specs.Fmt.{decimal}
use Rattle.std.specs.List.{flat_map, last_or, range_with_len}
use Rattle.std.specs.Option.{option_map_or, option_or}
use Rattle.pc_model.specs.declared.choices.Work.{Work}
use Rattle.pc_model.specs.declared.commit.Commit.{Commit}
use Rattle.pc_model.specs.declared.event.Event.{Event}
use Rattle.pc_model.specs.declared.setup.Setup.{Setup}
use Rattle.pc_model.specs.Epochs.{is_held}
use Rattle.pc_model.specs.Given.{no_commit}
use Rattle.pc_model.specs.Known.{assigned_by}
use Rattle.pc_model.specs.Outcomes.{answer_of}
use Rattle.pc_model.specs.Record.{Record}
use Rattle.pc_model.specs.Stored.{passes}
use Rattle.pc_broker_log.specs.Logs.{log_at}
use Rattle.pc_print.specs.Line.{marked, spaced}

-- the commit of the part's first assignment, if there was one
abbrev pub first_assigned : List Event → ℕ → Option Commit
first_assigned [] p = None
first_assigned (e ∷ h) p = option_or (first_assigned h p) (assigned_by e p)

-- the commit with which the part began: position 0 without a map where it was never assigned
abbrev pub first_commit : List Event → ℕ → Commit
first_commit h p = unwrap_or (first_assigned h p) no_commit

-- the line of a record, with the function's answer
abbrev pub record_line : Work → ℕ → Record → List ℕ
record_line work p r = spaced (codes "record" ∷ decimal p ∷ decimal r.offset
    ∷ marked (answer_of work r.value) ∷ []) ++ 10 ∷ []

-- the line of a part's end
abbrev pub end_line : ℕ → ℕ → List ℕ
end_line p position = spaced (codes "end" ∷ decimal p ∷ decimal position ∷ []) ++ 10 ∷ []

-- the records that the start does not pass over
abbrev pub not_passed : Commit → List Record → List Record
not_passed start records = filter (λ r. not (passes start r.offset)) records

-- the offset after the last of these records, or the position where there is none
abbrev pub end_of : ℕ → List Record → ℕ
end_of position records = option_map_or (λ r. r.offset + 1) (last_or None records) position

-- the lines of a part: its records that the start does not pass over, and where those from the
-- start's position on end
unfoldable pub part_summary : Work → Commit → ℕ → List Record → List ℕ
part_summary work start p records = flat_map (record_line work p) (not_passed start records)
    ++ end_line p (end_of start.position (filter (λ r. nat_le start.position r.offset) records))

-- the parts of these logs that the history leaves held, in rising order
abbrev pub held_among : List (Option (List Record)) → List Event → List ℕ
held_among logs h = filter (is_held h) (range_with_len 0 (length logs))

-- the summary of a history over a setup and logs
unfoldable pub summary_of : Setup → List (Option (List Record)) → List Event → List ℕ
summary_of setup logs h = flat_map (λ p. part_summary setup.settings.rules.work (first_commit h p) p
    (unwrap_or (log_at logs p) [])) (held_among logs h)
