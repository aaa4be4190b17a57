-- The entry was busy, or it was not.
use Rattle.pc_shards.specs.Part.{plain_entries}
use Rattle.pc_shards.proofs.PartLemmas.{busy-or_free}
use Rattle.pc_shards.proofs.part.Part.free.Goals as goal

pub returns-then-set_busy-clause-same : goal.returns-then-set_busy-clause-same
returns-then-set_busy-clause-same c = λ free. busy-or_free c.args.offset
    (plain_entries c.args.self.now.entries.items) c.requires.holds.has c.if-set_busy.ensures.was
    free

pub returns-else-set_busy-clause-ready : goal.returns-else-set_busy-clause-ready
returns-else-set_busy-clause-ready c = λ busy. busy-or_free c.args.offset
    (plain_entries c.args.self.now.entries.items) c.requires.holds.has busy
    c.if-set_busy.ensures.was
