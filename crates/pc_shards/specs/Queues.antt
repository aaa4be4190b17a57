-- The queues of offsets.
use Rattle.std.specs.Prelude.{ℕ, List, []}
use Rattle.std.specs.Option.{option_map_or}
use Rattle.indexmap.specs.IndexMap.{get_by}
use Rattle.pc_shards.specs.declared.shard_key.ShardKey.{ShardKey}
use Rattle.pc_shards.specs.declared.queues.Queues.{Queues}
use Rattle.pc_shards.specs.ShardKey.{is_same}

-- the queue of a key, which is empty where there is none
abbrev pub queue_of : Queues → ShardKey → List ℕ
queue_of queues k = option_map_or (λ queue. queue.items) (get_by (is_same k) queues.map) []
