use Rattle.std.proofs.Common.{◌∙◌, ◌≤◌, sym, ap, length, arith}
use Rattle.std.proofs.lemmas.List.{drop_all}
use Rattle.pc_bytes.specs.Crc.{with_bytes}
use Rattle.pc_bytes.proofs.CrcLemmas.{with_bytes-step, no_bytes}
use Rattle.pc_bytes.proofs.crc.with_tail.Goals as goal

pub loop-byte-preserved : goal.loop-byte-preserved
loop-byte-preserved c =
    with_bytes-step c.args.bytes.now c.loop-byte.byte-index c.loop-byte.register _ c.loop-byte-test.true c.with_byte-register.ensures ∙ c.loop-byte.invariant

pub returns : goal.returns
returns c =
    let ended : length c.args.bytes.now ≤ c.loop-byte.byte-index = omega arith in
    sym (no_bytes c.loop-byte.register) ∙ ap (with_bytes c.loop-byte.register) (sym (drop_all c.loop-byte.byte-index c.args.bytes.now ended)) ∙ c.loop-byte.invariant
