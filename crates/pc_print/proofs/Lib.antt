pub mod FieldLemmas
pub mod ReadingLemmas
pub mod SummaryLemmas
pub mod TextLemmas
pub mod Utf8Lemmas
pub mod WordLemmas
