pub mod ReadingLemmas
pub mod SearchLemmas
