-- The part has the entry that was made busy.
use Rattle.pc_shards.specs.Entries.{of_part}
use Rattle.pc_shards.proofs.EntriesLaws.{first_offset-there}
use Rattle.pc_shards.proofs.tests.parts_are_apart.Goals as goal

pub free-requires : goal.free-requires
free-requires g c = first_offset-there c.busy_next.new.shards.order 0
    (of_part c.busy_next.new.shards 0) c.in-Some.first c.in-Some.ensures.first
