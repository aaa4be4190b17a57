pub mod OpenJobs
pub mod Ledger
pub mod Calls
pub mod Polls
pub mod State
pub mod Queries
pub mod Rest
