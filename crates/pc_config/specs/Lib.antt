pub mod Keys
pub mod Faults
pub mod Members
pub mod Lists
pub mod Config
