use Rattle.std.proofs.Common.{◌≡◌, ◌++◌, pos, length, w16, arith, rules}
use Rattle.pc_model.specs.Messages.{int_spelling}
use Rattle.pc_offset_wire.proofs.WritingLemmas.{is_string, string-put}
use Rattle.pc_offset_wire.proofs.put.put_string.Goals as goal

pub returns : goal.returns
returns c =
    let fits = is_string c.args.text.now c.utf8.text (omega arith) in
    let head : c.put_i16.new.out.items ≡ c.args.out.now.items ++ int_spelling w16 (pos (length c.args.text.now)) = search rules in
    string-put c.args.text.now _ _ _ fits head (rw c.as_bytes.ensures.value at c.in_ok-extend_from_slice.ensures.items)
