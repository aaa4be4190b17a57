-- The runs up to high before are the first of those up to it after.
use Rattle.std.proofs.Common.{refl, arith}
use Rattle.pc_partition.proofs.CountedLemmas.{HasPart-new, HasPart-old, IsAnew-next, IsNext-above, IsPassed, counts-anew}
use Rattle.pc_partition.proofs.counted.CountedRuns.complete_above.Goals as goal

pub part-old-requires : goal.part-old-requires
part-old-requires c = HasPart-old _ _ c.args.self.now.list.items c.args.self.now.high c.args.self.now.counts c.requires.counted
    (omega (arith, c.saturating_sub-first.ensures))

pub part-new-requires : goal.part-new-requires
part-new-requires c =
    let next = IsNext-above c.saturating_sub-first.result c.args.self.now.list.items c.args.self.now.high c.args.self.now.counts
    c.args.offset c.requires.counted c.requires.above (omega (arith, c.requires.small)) c.saturating_sub-first.ensures in
    let passed : IsPassed c.args.offset c.args.self.now.list.items c.args.self.now.counts c.pass.new.self.high c.pass.new.self.list.items
    c.pass.new.self.counts = record {
      high = c.pass.ensures.high;
      list = rw c.pass.ensures.list refl;
      runs = c.pass.ensures.runs;
      few = c.pass.ensures.few;
      long = c.pass.ensures.long;
      long_2 = c.pass.ensures.long_2;
    } in
    HasPart-new _ _ _ _ _ _ c.args.self.now.counts c.pass.new.self.high c.pass.new.self.list.items c.pass.new.self.counts next passed

pub replace-requires : goal.replace-requires
replace-requires c =
    let next = IsNext-above c.saturating_sub-first.result c.args.self.now.list.items c.args.self.now.high c.args.self.now.counts
    c.args.offset c.requires.counted c.requires.above (omega (arith, c.requires.small)) c.saturating_sub-first.ensures in
    let passed : IsPassed c.args.offset c.args.self.now.list.items c.args.self.now.counts c.pass.new.self.high c.pass.new.self.list.items
    c.pass.new.self.counts = record {
      high = c.pass.ensures.high;
      list = rw c.pass.ensures.list refl;
      runs = c.pass.ensures.runs;
      few = c.pass.ensures.few;
      long = c.pass.ensures.long;
      long_2 = c.pass.ensures.long_2;
    } in
    let anew = IsAnew-next c.saturating_sub-first.result 0 c.args.offset c.args.self.now.high
    c.args.self.now.list.items c.args.self.now.list.items c.args.self.now.counts c.part-old.result c.part-new.result c.pass.new.self.high
    c.pass.new.self.list.items c.pass.new.self.counts next passed c.requires.counted.counted.are c.part-old.ensures c.part-new.ensures in
    record { long = anew.long.gives; long_2 = anew.long_2.gives }

pub returns-clause-counts : goal.returns-clause-counts
returns-clause-counts c =
    let next = IsNext-above c.saturating_sub-first.result c.args.self.now.list.items c.args.self.now.high c.args.self.now.counts
    c.args.offset c.requires.counted c.requires.above (omega (arith, c.requires.small)) c.saturating_sub-first.ensures in
    let passed : IsPassed c.args.offset c.args.self.now.list.items c.args.self.now.counts c.pass.new.self.high c.pass.new.self.list.items
    c.pass.new.self.counts = record {
      high = c.pass.ensures.high;
      list = rw c.pass.ensures.list refl;
      runs = c.pass.ensures.runs;
      few = c.pass.ensures.few;
      long = c.pass.ensures.long;
      long_2 = c.pass.ensures.long_2;
    } in
    let anew = IsAnew-next c.saturating_sub-first.result 0 c.args.offset c.args.self.now.high
    c.args.self.now.list.items c.args.self.now.list.items c.args.self.now.counts c.part-old.result c.part-new.result c.pass.new.self.high
    c.pass.new.self.list.items c.pass.new.self.counts next passed c.requires.counted.counted.are c.part-old.ensures c.part-new.ensures in
    counts-anew _ _ c.args.self.now.counts c.part-old.result c.part-new.result _ _ c.pass.new.self.counts c.replace.new.self passed anew
    c.replace.ensures.runs c.replace.ensures.long c.replace.ensures.long_2
