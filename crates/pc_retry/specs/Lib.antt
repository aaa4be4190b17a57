pub mod Offsets
pub mod Waiting
