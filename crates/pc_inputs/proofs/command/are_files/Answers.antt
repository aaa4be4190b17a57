use Rattle.std.proofs.Common.{refl}
use Rattle.pc_inputs.proofs.WordsLemmas.{files-test}
use Rattle.pc_inputs.proofs.command.are_files.Goals as goal

pub returns-then-is_file_count : goal.returns-then-is_file_count
returns-then-is_file_count c = files-test c.args.words.now _ c.are_names.result refl
    c.if-is_file_count.ensures c.are_names.ensures
