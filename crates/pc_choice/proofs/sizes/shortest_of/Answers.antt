-- The smallest of the four sizes.
use Rattle.std.proofs.Common.{◌∙◌}
use Rattle.pc_choice.proofs.ChoiceLemmas.{smaller_size-shortest_text}
use Rattle.pc_choice.proofs.sizes.shortest_of.Goals as goal

pub returns : goal.returns
returns c = λ bits l n o e. c.smaller.ensures
    ∙ rw (c.smaller-with_bitset.ensures, c.smaller-version_1.ensures, c.size_of.ensures, c.size_of-2.ensures, c.size_of-3.ensures, c.size_of-4.ensures)
    (smaller_size-shortest_text bits c.args.bitset c.args.runlength c.args.bitset2 c.args.runlength2 l n o e)
