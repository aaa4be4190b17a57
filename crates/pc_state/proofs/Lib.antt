pub mod StateLemmas
mod LedgerLemmas
mod OutLemmas
mod DueLaw
mod PartsLemmas
mod OpenLemmas
mod NextTime
mod PollOpen
mod RestLemmas
mod PhaseLemmas
mod StoredLemmas
pub mod UnfinishedLemmas
mod AddLemmas
pub mod RetryLemmas
pub mod PolledLemmas
pub mod QueryLemmas
pub mod PartEvents
pub mod ReleaseLemmas
pub mod OpenJobsLemmas
pub mod PollMarks
pub mod PollLemmas
pub mod AssignLemmas
pub mod ReadyLemmas
pub mod NextLemmas
pub mod AtWork
pub mod DispatchLemmas
pub mod ResultLemmas
pub mod SuccessLemmas
pub mod ExpectedLemmas
pub mod WaitingLemmas
pub mod WorkLemmas
pub mod FailureLemmas
pub mod FailureTests
pub mod DueLemmas
pub mod TickLemmas
pub mod TakeLemmas
