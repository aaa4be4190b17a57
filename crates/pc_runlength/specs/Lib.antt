pub mod RunLengths
