-- A byte's bits after another's, and the bits that are missing.
use Rattle.std.proofs.Common.{length, arith, ap}
use Rattle.pc_bitset.proofs.UnpackingLemmas.{bits_in-missing, bits_in-more, length-bits_in_min}
use Rattle.pc_bitset.proofs.unpacking.read_bits.Goals as goal

pub overflow_sub-count : goal.overflow_sub-count
overflow_sub-count c =
    let few = length-bits_in_min c.args.count c.loop-byte.byte-index c.args.bytes.now c.loop-byte.bits c.loop-byte.invariant in
    omega (arith, few, c.count.ensures.count)

pub loop-byte-preserved : goal.loop-byte-preserved
loop-byte-preserved c =
    let n = rw c.count.ensures.count at c.min-n.ensures in
    bits_in-more c.args.count c.loop-byte.byte-index c.min-n.result c.args.bytes.now c.loop-byte.bits c.push_byte.new.bits c.loop-byte-test.true c.requires.needed c.loop-byte.invariant n c.in_ok-push_byte.ensures

pub overflow_sub-missing : goal.overflow_sub-missing
overflow_sub-missing c =
    let few = length-bits_in_min c.args.count c.loop-byte.byte-index c.args.bytes.now c.loop-byte.bits c.loop-byte.invariant in
    omega (arith, few, c.count-2.ensures.count)

pub returns : goal.returns
returns c =
    let new = rw c.count-2.ensures.count at c.in_ok-push.ensures.ok in
    bits_in-missing c.args.count c.loop-byte.byte-index c.args.bytes.now c.loop-byte.bits c.push.new.self c.loop-byte-test.false c.loop-byte.invariant new
