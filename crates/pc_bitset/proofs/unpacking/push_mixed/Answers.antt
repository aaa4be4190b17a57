-- One more bit of the byte.
use Rattle.std.proofs.Common.{length, arith, ap}
use Rattle.std.proofs.lemmas.List.{length-append}
use Rattle.pc_bitset.proofs.UnpackingLemmas.{byte_bits-push, length-byte_bits}
use Rattle.pc_bitset.specs.Packing.{byte_bits}
use Rattle.pc_bitset.proofs.unpacking.push_mixed.Goals as goal

pub push-requires : goal.push-requires
push-requires c =
    let more = length-append c.args.bits.now (byte_bits c.loop-i.i c.args.byte) in
    let len = length-byte_bits c.loop-i.i c.args.byte in
    rw c.loop-i.invariant (omega (arith, more, len, c.requires.small, c.loop-i-test.true))

pub loop-i-preserved : goal.loop-i-preserved
loop-i-preserved c =
    byte_bits-push c.loop-i.i c.args.byte c.args.bits.now c.loop-i.bits c.push.new.self c.loop-i.invariant c.in_ok-push.ensures.ok
