pub mod Starts
pub mod Remark
pub mod Ending
pub mod Written
pub mod Promise
pub mod Told
pub mod RunEnding
pub mod RunPromise
