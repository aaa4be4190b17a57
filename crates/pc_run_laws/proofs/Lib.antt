mod AttemptsLaw
mod RestLaw
mod Tally
mod RecordCounts
mod PartCounts
mod Moves
mod Drains
mod Ticks
mod BoundLaw
mod FailedLaw
pub mod FinishedLaw
pub mod StartLaw
pub mod HeldBySteps
