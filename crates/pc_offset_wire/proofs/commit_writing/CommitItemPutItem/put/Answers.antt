use Rattle.std.proofs.Common.{◌≡◌, ◌++◌, rules, w32, w64}
use Rattle.std.specs.Prelude.{FitsSigned}
use Rattle.pc_model.specs.Messages.{int_spelling}
use Rattle.pc_offset_wire.specs.Views.{plain_commit_item}
use Rattle.pc_offset_wire.proofs.WritingLemmas.{commit_item-put}
use Rattle.pc_offset_wire.proofs.commit_writing.CommitItemPutItem.put.Goals as goal

pub returns : goal.returns
returns c =
    let part : FitsSigned w32 c.args.self.now.part = search rules in
    let position : FitsSigned w64 c.args.self.now.position = search rules in
    let first : c.put_i32.new.out.items ≡ c.args.out.now.items ++ int_spelling w32 c.args.self.now.part = search rules in
    let second : c.put_i64.new.out.items ≡ c.put_i32.new.out.items ++ int_spelling w64 c.args.self.now.position = search rules in
    commit_item-put _ (plain_commit_item c.args.self.now) _ _ _ _ part position c.requires first second c.put_nullable.ensures
