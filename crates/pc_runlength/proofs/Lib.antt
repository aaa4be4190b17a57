pub mod ReadingLemmas
pub mod WalkLemmas
