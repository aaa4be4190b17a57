pub mod Applied
pub mod Ending
pub mod Jobs
pub mod Run
pub mod Report
