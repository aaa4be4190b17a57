-- Whole bytes, and a last one that is not full.
use Rattle.std.proofs.Common.{arith, ◌∙◌}
use Rattle.pc_bitset.proofs.PackingLemmas.{grown_part, grown_whole}
use Rattle.pc_bitset.proofs.packing.append_whole.Goals as goal

pub returns-in_ok-push : goal.returns-in_ok-push
returns-in_ok-push c =
    let mid = rw (← c.len.ensures) at c.in_ok-resize.ensures.items in
    grown_part c.args.out.now.items c.resize.new.self.items c.push.new.self.items c.len.result c.args.n _ _ c.args.bit
    (c.len.ensures ∙ c.args.out.now.ok.0) c.equal_bits.ensures c.equal_bits-then-rest-gt0.ensures c.if-rest-gt0.true mid c.in_ok-push.ensures.items

pub returns-else-rest-gt0 : goal.returns-else-rest-gt0
returns-else-rest-gt0 c =
    let new = rw (← c.len.ensures) at c.in_ok-resize.ensures.items in
    grown_whole c.args.out.now.items c.resize.new.self.items c.len.result c.args.n _ c.args.bit
    (c.len.ensures ∙ c.args.out.now.ok.0) c.equal_bits.ensures (omega (arith, c.if-rest-gt0.false)) new
