pub mod Number
pub mod Packing
