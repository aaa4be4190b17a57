pub mod OffsetsLemmas
pub mod QueueLemmas
pub mod WaitingLemmas
