pub mod Entries
pub mod ShardKey
pub mod Rising
pub mod Part
pub mod Queues
pub mod Shards
pub mod OpenEntries
pub mod Ready
