use Rattle.std.proofs.Common.{◌≡◌, ◌++◌, rules, w16, w32, w64}
use Rattle.std.specs.Prelude.{FitsSigned}
use Rattle.pc_model.specs.Messages.{int_spelling}
use Rattle.pc_offset_wire.specs.Replies.{entry_for}
use Rattle.pc_offset_wire.proofs.WritingLemmas.{entry-put}
use Rattle.pc_offset_wire.proofs.fetch_writing.put_entry.Goals as goal

pub returns : goal.returns
returns c =
    let part : FitsSigned w32 c.args.part = search rules in
    let position : FitsSigned w64 c.args.entry.now.position = search rules in
    let code : FitsSigned w16 c.args.entry.now.code = search rules in
    let first : c.put_i32.new.out.items ≡ c.args.out.now.items ++ int_spelling w32 c.args.part = search rules in
    let second : c.put_i64.new.out.items ≡ c.put_i32.new.out.items ++ int_spelling w64 c.args.entry.now.position = search rules in
    let last : c.put_i16.new.out.items ≡ c.put_nullable.new.out.items ++ int_spelling w16 c.args.entry.now.code = search rules in
    entry-put (entry_for c.args.part c.args.entry.now) _ _ _ _ _ part position c.requires code first second c.in_ok-put_nullable.ensures last
