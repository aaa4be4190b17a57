-- The least ready offset is the first of its ordering key, and stays so.
use Rattle.std.proofs.Common.{true, sym}
use Rattle.pc_shards.specs.Entries.{of_part}
use Rattle.pc_shards.proofs.EntriesLaws.{first_offset-with_busy, least_ready-first_offset}
use Rattle.pc_shards.proofs.tests.busy_next.Goals as goal

pub busy-requires : goal.busy-requires
busy-requires c = least_ready-first_offset c.args.shards.now.order 0 (of_part c.args.shards.now 0)
    c.in_ok-offset.offset (sym c.in_ok-offset.ensures.least)

pub returns-clause-first : goal.returns-clause-first
returns-clause-first c = rw (c.busy.ensures.others.order, c.busy.ensures.busy)
    (first_offset-with_busy c.args.shards.now.order 0
    (of_part c.args.shards.now 0) c.in_ok-offset.offset true
    c.in_ok-offset.offset (least_ready-first_offset c.args.shards.now.order 0
    (of_part c.args.shards.now 0) c.in_ok-offset.offset (sym c.in_ok-offset.ensures.least)))

pub returns-clause-stays : goal.returns-clause-stays
returns-clause-stays c = λ o first. rw (c.busy.ensures.others.order, c.busy.ensures.busy)
    (first_offset-with_busy c.args.shards.now.order 0
    (of_part c.args.shards.now 0) c.in_ok-offset.offset true
    o first)
