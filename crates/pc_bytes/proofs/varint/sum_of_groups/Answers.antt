use Rattle.std.proofs.Common.{arith, add-one}
use Rattle.std.proofs.Math.Nat.{pow-succ'}
use Rattle.pc_bytes.proofs.VarintLemmas.{step-lt, step-is}
use Rattle.pc_bytes.proofs.varint.sum_of_groups.Goals as goal

pub overflow_add-sum : goal.overflow_add-sum
overflow_add-sum c =
    let h = step-lt c.args.bytes.now c.loop-byte.byte-index _ _ _ c.loop-byte-test.true c.requires c.loop-byte.invariant.sum c.loop-byte.invariant.weight c.from.ensures in omega arith

pub loop-byte-preserved : goal.loop-byte-preserved
loop-byte-preserved c = record {
  sum = step-is c.args.bytes.now c.loop-byte.byte-index _ _ _ c.loop-byte-test.true c.loop-byte.invariant.sum c.loop-byte.invariant.weight c.from.ensures;
  weight = rw (add-one, pow-succ' 128 c.loop-byte.byte-index, c.loop-byte.invariant.weight, c.from-weight.ensures) (omega arith);
}
