pub mod Arguments
pub mod Kinds
pub mod PlayScript
pub mod Steps
