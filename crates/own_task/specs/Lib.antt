pub mod Doubled
pub mod Consume
