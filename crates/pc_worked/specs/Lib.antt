pub mod Histories
pub mod Questions
