pub mod CommitLemmas
pub mod ResumeLemmas
