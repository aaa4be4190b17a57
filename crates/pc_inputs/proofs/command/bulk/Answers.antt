-- The words say something, or not.
use Rattle.std.proofs.Common.{◌∙◌, Err, false, inr, map, ap}
use Rattle.std.specs.Prelude.{string_bytes}
use Rattle.std.specs.Result.{result_map_both}
use Rattle.std.proofs.lemmas.Result.{err_from_is_err_and}
use Rattle.pc_inputs.specs.Command.{bulk_of, said_by}
use Rattle.pc_inputs.specs.Words.{plain_command}
use Rattle.pc_inputs.specs.declared.status.Status.{Status}
use Rattle.pc_inputs.proofs.WordsLemmas.{asked-err, asked-ok}
use Rattle.pc_inputs.proofs.command.bulk.Goals as goal

pub returns-in_err-said-clause-command : goal.returns-in_err-said-clause-command
returns-in_err-said-clause-command c =
    let got = err_from_is_err_and c.from_residual.result c.from_residual.ensures.1 in
    asked-err bulk_of c.from_residual.result c.in_err-said.field-0.0
    (said_by false (map string_bytes c.args.words.now))
    (got.1 ∙ ap (λ (s : Status). Err s) got.2) c.in_err-said.ensures

pub returns-clause-command : goal.returns-clause-command
returns-clause-command c = inr (asked-ok bulk_of c.in_ok-said.said
    (said_by false (map string_bytes c.args.words.now))
    (result_map_both plain_command (λ s. s) c.bulk_of.result) c.in_ok-said.ensures
    c.bulk_of.ensures.command)
