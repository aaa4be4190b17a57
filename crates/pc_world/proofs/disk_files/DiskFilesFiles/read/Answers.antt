-- What stands behind the bytes that were there is what was read.
use Rattle.std.proofs.Common.{◌++◌, drop, vec_len, sym, ap, ◌∙◌, arith, length-drop}
use Rattle.std.proofs.lemmas.List.{take-append-drop}
use Rattle.pc_world.proofs.disk_files.DiskFilesFiles.read.Goals as goal

pub returns-clause-contents : goal.returns-clause-contents
returns-clause-contents g c = record {
  contents = drop (vec_len c.args.into.now) c.read_some.new.into.items;
  behind = sym (take-append-drop (vec_len c.args.into.now) c.read_some.new.into.items)
      ∙ ap (λ xs. xs ++ drop (vec_len c.args.into.now) c.read_some.new.into.items) c.read_some.ensures;
  short = omega (arith, length-drop (vec_len c.args.into.now) c.read_some.new.into.items);
  as_told = λ bytes told. cc;
}
