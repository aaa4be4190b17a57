-- The bits join those of the last byte.
use Rattle.std.proofs.Common.{sym}
use Rattle.pc_bitset.proofs.PackingLemmas.{AppendsBits-within}
use Rattle.pc_bitset.proofs.packing.append_within.Goals as goal

pub returns-in-Some : goal.returns-in-Some
returns-in-Some c =
    let last = rw c.args.out.now.ok.0 at c.in-Some.ensures.value in
    rw (c.equal_bits.ensures, c.args.out.now.ok.0)
    (AppendsBits-within c.args.place c.args.n c.args.bit c.args.out.now.items c.in-Some.last.now c.requires.room c.requires.begun (sym last))
