pub mod Fault
pub mod Effect
pub mod Engine
pub mod Ending
pub mod Stall
pub mod Stand
