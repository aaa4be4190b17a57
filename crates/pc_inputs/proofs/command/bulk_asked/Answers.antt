-- The words ask for it, for another command, or for none.
use Rattle.std.proofs.Common.{◌∙◌, Err, Some, inl, inr, map, ap, sym}
use Rattle.std.specs.Prelude.{string_bytes, ok_or}
use Rattle.std.specs.Result.{result_map_both}
use Rattle.std.proofs.lemmas.Result.{err_from_is_err_and}
use Rattle.pc_inputs.specs.Command.{bulk_in, command_of}
use Rattle.pc_inputs.specs.Words.{plain_bulk, plain_command}
use Rattle.pc_inputs.specs.declared.status.Status.{Status}
use Rattle.pc_inputs.specs.declared.status.Status.TheVariants.{Usage}
use Rattle.pc_inputs.proofs.ReadingLemmas.{was-read}
use Rattle.pc_inputs.proofs.WordsLemmas.{bulk-err, bulk-ok}
use Rattle.pc_inputs.proofs.command.bulk_asked.Goals as goal
use Rattle.pc_inputs.proofs.command.bulk_asked.Goals.{in-Bulk, in-Play}

pub returns-in_err-command : goal.returns-in_err-command
returns-in_err-command c =
    let got = err_from_is_err_and c.from_residual.result c.from_residual.ensures.1 in
    let is = got.1 ∙ ap (λ (s : Status). Err s) got.2 in
    elim (bulk-err (command_of (map string_bytes c.args.words.now)) c.in_err-command.field-0.0 c.in_err-command.ensures.command) [
      | inl memory ↦ inl (is ∙ ap (λ (s : Status). Err s) memory)
      | inr other ↦ inr (ap (result_map_both plain_bulk (λ s. s)) is ∙ other)
    ]

pub returns : goal.returns
returns c =
    let words = map string_bytes c.args.words.now in
    let same = bulk-ok (command_of words) (plain_command c.in_ok-command.command)
    (was-read c.in_ok-command.command c.in_ok-command.ensures.command) in
    elim c.match-command.branch [
      | in-Bulk w ↦ inr (ap (result_map_both plain_bulk (λ s. s)) w.result-is
          ∙ ap (λ x. ok_or (bulk_in (Some (plain_command x))) Usage) (sym w.in-Bulk.is) ∙ same)
      | in-Play w ↦ inr (ap (result_map_both plain_bulk (λ s. s)) w.result-is ∙ (elim w.in-Play.is [
        | inl play ↦ ap (λ x. ok_or (bulk_in (Some (plain_command x))) Usage) (sym play.1)
        | inr run ↦ ap (λ x. ok_or (bulk_in (Some (plain_command x))) Usage) (sym run.2)
      ]) ∙ same)
    ]
