pub mod Action
pub mod Causes
pub mod Counts
pub mod Turn
