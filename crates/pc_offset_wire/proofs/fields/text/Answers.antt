use Rattle.std.proofs.Common.{subst}
use Rattle.std.specs.Str.{IsUtf8}
use Rattle.pc_offset_wire.proofs.FieldLemmas.{text_at-utf8, text_at-other}
use Rattle.pc_offset_wire.proofs.fields.text.Goals as goal

pub returns-in-Ok : goal.returns-in-Ok
returns-in-Ok c =
    let front = c.split_at.ensures.front in
    let utf8 = subst IsUtf8 front c.in-Ok.ensures.cases.1 in
    rw (c.in-Ok.ensures.cases.0, front, c.split_at.ensures.back) (text_at-utf8 c.args.len c.args.bytes.now c.if-bytes-len.false utf8)

pub returns-in-Err : goal.returns-in-Err
returns-in-Err c =
    text_at-other c.args.len c.args.bytes.now c.if-bytes-len.false (rw c.split_at.ensures.front at c.in-Err.ensures.cases.0)
