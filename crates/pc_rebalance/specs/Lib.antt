pub mod Apply
pub mod Block
pub mod Refusal
pub mod Stop
