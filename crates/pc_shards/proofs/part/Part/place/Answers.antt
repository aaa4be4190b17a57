-- The first entry that is not below the offset is at it.
use Rattle.std.proofs.Common.{subst}
use Rattle.pc_shards.specs.Rising.{In, Rises}
use Rattle.pc_shards.proofs.PartLemmas.{first-has, offsets-plain}
use Rattle.pc_shards.proofs.part.Part.place.Goals as goal

pub returns-clause-within : goal.returns-clause-within
returns-clause-within c = (first-has (λ e. e.record.offset) c.args.offset
    c.args.self.now.entries.items c.count_below.result
    (subst Rises (offsets-plain c.args.self.now.entries.items) c.requires.rises)
    (subst (In c.args.offset) (offsets-plain c.args.self.now.entries.items) c.requires.has)
    c.count_below.ensures.below c.count_below.ensures.above c.count_below.ensures.within).0

pub returns-clause-place : goal.returns-clause-place
returns-clause-place c = (first-has (λ e. e.record.offset) c.args.offset
    c.args.self.now.entries.items c.count_below.result
    (subst Rises (offsets-plain c.args.self.now.entries.items) c.requires.rises)
    (subst (In c.args.offset) (offsets-plain c.args.self.now.entries.items) c.requires.has)
    c.count_below.ensures.below c.count_below.ensures.above c.count_below.ensures.within).1
