use Rattle.std.proofs.Common.{◌∙◌, ap, bit_xor}
use Rattle.pc_bytes.specs.Crc.{crc32c_of, with_bytes}
use Rattle.pc_bytes.proofs.CrcLemmas.{with_bytes-block}
use Rattle.pc_bytes.proofs.crc.crc32c.Goals as goal

pub loop-rest-preserved : goal.loop-rest-preserved
loop-rest-preserved c =
    let s = c.split_at.ensures in
    let block = c.with_block-register.ensures ∙ ap (with_bytes c.loop-rest.register) s.front in
    ap (with_bytes c.with_block-register.result) s.back
    ∙ with_bytes-block c.loop-rest.rest.now 8 c.loop-rest.register c.with_block-register.result block
    ∙ c.loop-rest.invariant

pub returns : goal.returns
unfolding crc32c_of
returns c = ap (λ r. bit_xor r 0xFFFF_FFFF) (c.with_tail.ensures ∙ c.loop-rest.invariant)
