pub mod PieceLemmas
pub mod DecimalLemmas
pub mod EscapeLemmas
