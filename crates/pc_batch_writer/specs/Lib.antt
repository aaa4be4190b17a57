pub mod Generator
pub mod Writing
