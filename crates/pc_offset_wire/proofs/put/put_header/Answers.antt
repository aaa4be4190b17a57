use Rattle.std.proofs.Common.{◌≡◌, ◌++◌, w16, w32, rules}
use Rattle.std.specs.Option.{option_copied}
use Rattle.pc_model.specs.Messages.{int_spelling}
use Rattle.pc_offset_wire.proofs.WritingLemmas.{header-put}
use Rattle.pc_offset_wire.proofs.put.put_header.Goals as goal

pub returns : goal.returns
returns c =
    let key : c.put_i16.new.out.items ≡ c.args.out.now.items ++ int_spelling w16 c.args.key = search rules in
    let version : c.put_i16-2.new.out.items ≡ c.put_i16.new.out.items ++ int_spelling w16 c.args.version = search rules in
    let correlation : c.put_i32.new.out.items ≡ c.put_i16-2.new.out.items ++ int_spelling w32 c.args.correlation = search rules in
    header-put _ c.args.key c.args.version c.args.correlation (option_copied c.args.client) _ _ _ _ _ key version correlation c.put_nullable.ensures
