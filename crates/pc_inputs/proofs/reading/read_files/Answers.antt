-- The files of the play that the words make were read, or the words make none.
use Rattle.std.proofs.Common.{◌≡◌, ◌∙◌, Err, Ok, Some, refl, inl, inr, ap, map, sym}
use Rattle.std.specs.Prelude.{string_bytes}
use Rattle.std.specs.Result.{result_map_both}
use Rattle.std.proofs.lemmas.Result.{err_from_is_err_and}
use Rattle.pc_inputs.specs.declared.status.Status.{Status}
use Rattle.pc_inputs.specs.Command.{Command, command_of, files_in}
use Rattle.pc_inputs.specs.Command.Command.{Play}
use Rattle.pc_inputs.specs.Words.{plain_command, plain_files}
use Rattle.pc_inputs.specs.Reading.{command_answered, texts_of}
use Rattle.pc_inputs.proofs.ReadingLemmas.{command-fault, command-ok, other-command, play-read, was-read}
use Rattle.pc_inputs.proofs.reading.read_files.Goals as goal

pub returns-in_err-command-clause-texts : goal.returns-in_err-command-clause-texts
returns-in_err-command-clause-texts g c =
    let got = err_from_is_err_and c.from_residual.result c.from_residual.ensures.1 in
    command-fault texts_of files_in command_answered (map string_bytes c.args.words.now) (g.F.Files.told c.args.files.now)
    (g.F.Files.faults c.args.files.now) c.from_residual.result c.in_err-command.field-0.0
    (got.1 ∙ ap (λ (s : Status). Err s) got.2) c.in_err-command.ensures.command

pub returns-in-Play-clause-texts : goal.returns-in-Play-clause-texts
returns-in-Play-clause-texts g c =
    let words = map string_bytes c.args.words.now in
    let files = plain_files c.in-Play.names in
    let named : command_of words ≡ Some (Play files) = command-ok (command_of words) (Play files)
    (ap (λ (x : Command). Ok x) (sym (ap plain_command c.in-Play.is))
    ∙ was-read c.in_ok-command.command c.in_ok-command.ensures.command) in
    elim c.read_command.ensures.texts [
      | inl forgot ↦ inl forgot
      | inr from ↦ inr (play-read words (g.F.Files.told c.args.files.now)
          (g.F.Files.faults c.args.files.now) (g.F.Files.faults c.read_command.new.files) files
          (result_map_both texts_of (λ s. s) c.read_command.result) named from)
    ]

pub returns-clause-texts : goal.returns-clause-texts
returns-clause-texts g c =
    let words = map string_bytes c.args.words.now in
    let command = plain_command c.in_ok-command.command in
    inr (other-command files_in command_answered words (g.F.Files.told c.args.files.now)
    (g.F.Files.faults c.args.files.now) (g.F.Files.faults c.args.files.now) command
    (λ reads. elim c.in-Run.is [
      | inl run ↦ rw run.2 refl
      | inr bulk ↦ rw bulk.1 refl
    ])
    (command-ok (command_of words) command (was-read c.in_ok-command.command c.in_ok-command.ensures.command)))
