pub mod Run
pub mod Failed
pub mod Assigned
pub mod Held
