pub mod Lists
pub mod Kept
pub mod Positions
pub mod Stall
pub mod First
pub mod Failed
