mod LinkLemmas
mod FailedLemmas
