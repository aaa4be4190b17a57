pub mod Offsets
pub mod Search
