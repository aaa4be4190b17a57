-- The key bytes that a key with lent bytes stands for.
use Rattle.std.specs.Prelude.{ℕ, Bool, List, Option}
use Rattle.std.specs.Option.{option_copied}
use Rattle.pc_model.specs.Next.{same_bytes}
use Rattle.pc_shards.specs.declared.shard_key.ShardKey.{ShardKey}

-- the key's bytes themselves
abbrev pub bytes_of : ShardKey → Option (List ℕ)
bytes_of k = option_copied k.bytes

-- whether two keys have the same bytes
abbrev pub is_same : ShardKey → ShardKey → Bool
is_same k l = same_bytes (bytes_of k) (bytes_of l)
