pub mod Runs
pub mod Counts
pub mod Window
pub mod Lengths
