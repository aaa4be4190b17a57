pub mod Hand
pub mod Play
pub mod Kept
