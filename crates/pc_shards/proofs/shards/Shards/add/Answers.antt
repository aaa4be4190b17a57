-- A record without headers is the one of which nothing but the offset and the key is known.
use Rattle.pc_shards.proofs.shards.Shards.add.Goals as goal

pub returns-clause-added : goal.returns-clause-added
returns-clause-added c = rw (← c.none.ensures) c.add_record.ensures.added
