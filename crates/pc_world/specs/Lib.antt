pub mod World
pub mod MemoryFiles
pub mod MemorySink
pub mod FailedReads
pub mod FailingLink
