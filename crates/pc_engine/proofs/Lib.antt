pub mod EngineEvents
pub mod EngineStep
pub mod EngineTake
pub mod EngineTick
mod EngineEnding
pub mod EngineSettle
pub mod EngineRelease
pub mod EngineRevoke
pub mod EngineLemmas
pub mod EnginePoll
pub mod EngineAssign
pub mod EngineCommit
pub mod EngineStall
