-- The first entries are those that there were, and no other part changes.
use Rattle.std.proofs.Common.{◌≡◌, length, take}
use Rattle.pc_shards.specs.Entries.{ChangesOnly, of_part}
use Rattle.pc_shards.proofs.shards.Shards.truncate.Given as goal

abbrev pub invariant-cut : goal.invariant-cut
invariant-cut l = record {
  kept : take l.count (of_part l.self l.part) ≡ take l.count (of_part l.fn.self l.part);
  others : ChangesOnly l.part l.fn.self l.self;
}

abbrev pub decreases-cut : goal.decreases-cut
decreases-cut l = length (of_part l.self l.part)
